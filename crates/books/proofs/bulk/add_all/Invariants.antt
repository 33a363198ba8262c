use Rattle.books.proofs.Bulks.{Added}
use Rattle.books.proofs.bulk.add_all.Given as goal

abbrev pub invariant-loop-bound : goal.invariant-loop-bound
invariant-loop-bound g l = Added g.B.Book.meaning g.B.Book.adds l.initial.book l.bounds l.bound-index l.book
