use Rattle.std.proofs.Common.{◌-◌}
use Rattle.books.specs.Meaning.{bounds_of}
use Rattle.network.specs.Edges.{time_of_point}
use Rattle.relaxation.proofs.Turns.{Turning}
use Rattle.relaxation.proofs.spreading.Spreading.spread.Given as goal

abbrev pub invariant-loop-point : goal.invariant-loop-point
invariant-loop-point g l =
    Turning g.D.Delay.kind l.net.bounds.points (bounds_of (g.B.Book.meaning l.net.bounds.book.now)) l.star
    (time_of_point g.D.Delay.kind g.D.Delay.means l.self.times) l.self.over l.self.line

abbrev pub decreases-loop-point : goal.decreases-loop-point
decreases-loop-point g l = 16384 - l.self.line.taken
