-- The open marks of a plan. Assumes nothing.
use Rattle.std.specs.Prelude.{ℕ, List, [], map, slice_index, slice_index_or}
use Rattle.std.specs.List.{range_with_len}

-- what a mark noted: how many added bounds the book had, and the times of the points
pub record Mark (X : Type 0) : Type 0 where
  pub added : ℕ
  pub times : List X

-- the first `depth` marks of those that are noted in these places, the oldest first
unfoldable pub marks_in : {X : Type 0} → (depth : ℕ) → List ℕ → List (List X) → List (Mark X)
marks_in depth added times = map (λ i. record { added = slice_index added i; times = slice_index_or times i [] }) (range_with_len 0 depth)
