use Rattle.std.proofs.Common.{◌≡◌, ◌-◌}
use Rattle.books.specs.Meaning.{bounds_of}
use Rattle.relaxation.proofs.Founding.{GoingBack}
use Rattle.relaxation.proofs.spreading.Spreading.go_back.Given as goal

abbrev pub invariant-loop-point : goal.invariant-loop-point
invariant-loop-point g l =
    (l.self.over ≡ l.initial.self.over)
    × GoingBack g.D.Delay.kind (bounds_of (g.B.Book.meaning l.net.bounds.book.now)) l.initial.self.over l.end l.from l.written l.initial.self.chain
    l.point l.length l.self.chain

abbrev pub decreases-loop-point : goal.decreases-loop-point
decreases-loop-point g l = 128 - l.length
