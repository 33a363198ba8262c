-- Text that is put into an output where it belongs. Assumes nothing.
use Rattle.std.specs.Prelude.{◌≡◌, ℕ, ◌+◌, ◌≤◌, List, ◌++◌, length, take, drop}

-- the text stands in the output from one place up to another, and the rest of the output is as it was
pub record Puts (before : List ℕ) (from : ℕ) (text after : List ℕ) (to : ℕ) : Type 0 where
  pub output : after ≡ take from before ++ (text ++ drop to before)
  pub ends : to ≡ from + length text
  pub inside : to ≤ length before
