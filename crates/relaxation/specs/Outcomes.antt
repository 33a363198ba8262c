-- What becomes of a bound that is posted to a book whose earliest times are known. Assumes nothing.
use Rattle.std.specs.Prelude.{ℕ, List, [], ◌∷◌, ◌++◌}
use Rattle.bounds.specs.declared.row.Row.{Row}
use Rattle.delays.specs.Kind.{Kind, Exact}
use Rattle.relaxation.specs.declared.outcome.Outcome.{Outcome}
use Rattle.relaxation.specs.declared.outcome.Outcome.TheVariants.{Met, Raised, Conflict}
use Rattle.relaxation.specs.Rows.{Times, Covered}
use Rattle.relaxation.specs.Founds.{ChainFound}

module _ (k : Kind) (n : ℕ) (rows : List Row) (b : Row) where
  -- with the bound, the earliest times are the old ones, or the new ones, or there are none, since the bounds hold a chain; and where they
  -- are not the old ones, no bound of the book covers it
  abbrev pub OutcomeOf : (before after : ℕ → Exact k) → (places : List ℕ) → Outcome → Type 0
  OutcomeOf before after places Met = Times k n (rows ++ b ∷ []) before
  OutcomeOf before after places Raised = Times k n (rows ++ b ∷ []) after × (Covered k rows b → ⊥)
  OutcomeOf before after places (Conflict length) = ChainFound k n rows (b ∷ []) places length × (Covered k rows b → ⊥)
