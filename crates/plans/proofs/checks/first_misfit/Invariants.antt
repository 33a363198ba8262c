use Rattle.std.proofs.Common.{◌-◌, length, take}
use Rattle.std.specs.List.{All}
use Rattle.books.specs.Meaning.{bounds_of}
use Rattle.plans.specs.Rows.{Fit}
use Rattle.plans.proofs.checks.first_misfit.Given as goal

-- the rows so far fit
abbrev pub invariant-loop-bound : goal.invariant-loop-bound
invariant-loop-bound g l = All (Fit g.D.Delay.kind l.points) (take l.place (bounds_of (g.B.Book.meaning l.book)))

abbrev pub decreases-loop-bound : goal.decreases-loop-bound
decreases-loop-bound g l = length (bounds_of (g.B.Book.meaning l.book)) - l.place
