-- What a contract sees of a trial. Assumes nothing.
use Rattle.books.specs.declared.trial.Own.{Own}

-- the book below, and the rows of its own
pub record Laid (B : Type 0) : Type 0 where
  pub below : B
  pub own : Own
