use Rattle.std.proofs.Common.{◌≡◌}
use Rattle.books.specs.Meaning.{bounds_of}
use Rattle.network.specs.Edges.{time_of_point}
use Rattle.relaxation.proofs.Cursors.{ahead}
use Rattle.relaxation.proofs.Taking.{RowsGoing}
use Rattle.relaxation.proofs.spreading.Spreading.take_rows.Given as goal

abbrev pub invariant-loop-at : goal.invariant-loop-at
invariant-loop-at g l =
    let k = g.D.Delay.kind in
    let means = g.D.Delay.means in
    RowsGoing k l.net.bounds.points (bounds_of (g.B.Book.meaning l.net.bounds.book.now)) l.star l.point
    (time_of_point k means l.initial.self.times) (time_of_point k means l.self.times) l.self.over l.initial.self.line.waiting l.self.line.waiting l.at
    × (l.self.line.taken ≡ l.initial.self.line.taken)

abbrev pub decreases-loop-at : goal.decreases-loop-at
decreases-loop-at g l = ahead l.at
