use Rattle.std.proofs.Common.{◌≡◌, ℕ, ◌<◌}
use Rattle.books.specs.Meaning.{bounds_of}
use Rattle.network.specs.Edges.{time_of_point}
use Rattle.relaxation.specs.Rows.{Times}
use Rattle.relaxation.specs.Stars.{below}
use Rattle.relaxation.proofs.spreading.Spreading.settle.Given as goal

abbrev pub invariant-loop-time : goal.invariant-loop-time
invariant-loop-time g l = (q : ℕ) → q < l.time-index → time_of_point g.D.Delay.kind g.D.Delay.means l.time-items q ≡ g.D.Delay.kind.zero

abbrev pub invariant-loop-root : goal.invariant-loop-root
invariant-loop-root g l =
    Times g.D.Delay.kind l.net.0.points (below l.root (bounds_of (g.B.Book.meaning l.net.0.book.now)))
    (time_of_point g.D.Delay.kind g.D.Delay.means l.self.times)
