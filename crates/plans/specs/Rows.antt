-- The bounds of a plan: which rows a plan can take, covers, and earliest and least times are those of the relaxation; and counts of points that
-- moved. Assumes nothing.
use Rattle.std.specs.Prelude.{ℕ, ◌+◌, ◌≤◌, ◌⊎◌, zero, suc, Bool, not, ◌&&◌, cond, List}
use Rattle.bounds.specs.declared.row.Row.{Row}
use Rattle.delays.specs.Kind.{Kind, Exact}
use Rattle.network.specs.Assignments.{Solution}
pub use Rattle.relaxation.specs.Rows.{exact_of, force, Fit, Covers, Covered, Times, Least}

-- a point of the row is not below n
abbrev pub Outside : ℕ → Row → Type 0
Outside n r = (n ≤ r.left) ⊎ (n ≤ r.right)

-- some assignment meets the bounds in force
abbrev pub Solvable : (k : Kind) → ℕ → List Row → Type 0
Solvable k n rows = (x : ℕ → Exact k) × Solution k (force k n rows) x

-- how many numbers below n pass a test
abbrev pub tally : (ℕ → Bool) → ℕ → ℕ
tally test zero = 0
tally test (suc n) = tally test n + cond (test n) 1 0

-- x and y are two delays
abbrev pub differ : (k : Kind) → Exact k → Exact k → Bool
differ k x y = not (k.leq x y && k.leq y x)

-- how many of the n points have one time in x and another in y
abbrev pub moved_count : (k : Kind) → ℕ → (ℕ → Exact k) → (ℕ → Exact k) → ℕ
moved_count k n x y = tally (λ p. differ k (x p) (y p)) n
