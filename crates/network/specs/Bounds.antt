-- Exact bounds, the floors of points, and the bounds in force. Assumes nothing.
use Rattle.std.specs.Prelude.{◌≡◌, ℕ, ◌<◌, List, ◌++◌, map, length, slice_index_or}
use Rattle.std.specs.List.{range_with_len}
use Rattle.delays.specs.Kind.{Kind, Exact}

-- left minus right is at most the delay: an edge from left to right
pub record ExactBound (k : Kind) : Type 0 where
  pub left : ℕ
  pub right : ℕ
  pub delay : Exact k

-- a list of bounds
abbrev pub Bounds : Kind → Type 0
Bounds k = List (ExactBound k)

-- the floor of p: point 0 comes no later than p
abbrev pub floor_of : (k : Kind) → ℕ → ExactBound k
floor_of k p = record { left = 0; right = p; delay = k.zero }

-- the floors of the points below n
abbrev pub floors : (k : Kind) → ℕ → Bounds k
floors k n = map (floor_of k) (range_with_len 0 n)

-- the number of an element is its place in the list: x has the number i
abbrev pub Numbered : {X : Type 0} → List X → ℕ → X → Type 0
Numbered xs i x = (i < length xs) × (x ≡ slice_index_or xs i x)

-- The bounds in force over n points: those of the book, and then the floor of each point.
abbrev pub bounds_in_force : (k : Kind) → ℕ → Bounds k → Bounds k
bounds_in_force k n book = book ++ floors k n

-- both points of the bound are below n
pub record Inside (k : Kind) (n : ℕ) (b : ExactBound k) : Type 0 where
  pub left : b.left < n
  pub right : b.right < n
