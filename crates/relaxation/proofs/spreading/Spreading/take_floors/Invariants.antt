use Rattle.std.proofs.Common.{◌≡◌}
use Rattle.books.specs.Meaning.{bounds_of}
use Rattle.network.specs.Edges.{time_of_point}
use Rattle.relaxation.proofs.Flooring.{FloorsGoing}
use Rattle.relaxation.proofs.spreading.Spreading.take_floors.Given as goal

abbrev pub invariant-loop-right : goal.invariant-loop-right
invariant-loop-right g l =
    let k = g.D.Delay.kind in
    let means = g.D.Delay.means in
    FloorsGoing k l.net.bounds.points (bounds_of (g.B.Book.meaning l.net.bounds.book.now)) l.star (time_of_point k means l.initial.self.times)
    (time_of_point k means l.self.times) l.self.over l.initial.self.line.waiting l.self.line.waiting l.right
    × (l.self.line.taken ≡ l.initial.self.line.taken)
