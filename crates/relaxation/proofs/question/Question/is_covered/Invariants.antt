use Rattle.books.specs.Meaning.{bounds_of}
use Rattle.relaxation.proofs.Cursors.{ahead}
use Rattle.relaxation.proofs.Covering.{Uncovered}
use Rattle.relaxation.proofs.question.Question.is_covered.Given as goal

abbrev pub invariant-loop-at : goal.invariant-loop-at
invariant-loop-at g l = Uncovered g.D.Delay.kind (bounds_of (g.B.Book.meaning l.self.net.bounds.book.now)) l.self.row l.at

abbrev pub decreases-loop-at : goal.decreases-loop-at
decreases-loop-at g l = ahead l.at
