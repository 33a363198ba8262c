-- Bounds by their rows: the exact bounds that rows say, which rows fit a number of points, covers, and earliest and least times. Assumes nothing.
use Rattle.std.specs.Prelude.{◌≡◌, ℕ, ◌<◌, List, map}
use Rattle.std.specs.List.{Contains}
use Rattle.bounds.specs.declared.row.Row.{Row}
use Rattle.delays.specs.Kind.{Kind, Exact, Unread}
use Rattle.network.specs.Bounds.{ExactBound, Bounds, bounds_in_force}
use Rattle.network.specs.Assignments.{Le, Solution}
use Rattle.network.specs.Earliest.{Earliest}

-- the bound that a row says, with the delay that has its parts
abbrev pub exact_of : (k : Kind) → Row → ExactBound k
exact_of k r = record { left = r.left; right = r.right; delay = k.value r.t r.s }

-- the bounds in force over n points, where a book has these rows: those of the book, and then the floors
abbrev pub force : (k : Kind) → ℕ → List Row → Bounds k
force k n rows = bounds_in_force k n (map (exact_of k) rows)

-- both points are below n, and the kind has a delay with the parts
pub record Fit (k : Kind) (n : ℕ) (r : Row) : Type 0 where
  pub left : r.left < n
  pub right : r.right < n
  pub read : Unread k r.t r.s → ⊥

-- c has the two points of b, and a delay not greater
pub record Covers (k : Kind) (c b : Row) : Type 0 where
  pub left : c.left ≡ b.left
  pub right : c.right ≡ b.right
  pub delay : Le k (k.value c.t c.s) (k.value b.t b.s)

-- some bound of the book covers b
abbrev pub Covered : (k : Kind) → List Row → Row → Type 0
Covered k rows b = (c : Row) × Contains rows c × Covers k c b

-- x gives each of the n points its earliest time, and meets the bounds in force
pub record Times (k : Kind) (n : ℕ) (rows : List Row) (x : ℕ → Exact k) : Type 0 where
  pub solution : Solution k (force k n rows) x
  pub earliest : (p : ℕ) → p < n → Earliest k (force k n rows) p (x p)

-- x meets the bounds in force, and every other assignment that does gives each of the n points at least its time
pub record Least (k : Kind) (n : ℕ) (rows : List Row) (x : ℕ → Exact k) : Type 0 where
  pub solution : Solution k (force k n rows) x
  pub least : (y : ℕ → Exact k) → Solution k (force k n rows) y → (p : ℕ) → p < n → Le k (x p) (y p)
