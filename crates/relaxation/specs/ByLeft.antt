-- The index of bounds by left point: the list that it lists, and which bound is the newest that leaves a point. Assumes nothing.
use Rattle.std.specs.Prelude.{◌≡◌, ◌≢◌, ℕ, ◌<◌, ◌≤◌, ◌⊎◌, Option, Some, None, List, length, replicate, slice_index}
use Rattle.relaxation.specs.declared.by_left.ByLeft.{ByLeft}

-- Of the first `before` bounds with these left points, the bound with the number `kept` is the newest that leaves the point; where `kept` is
-- 65,535, none of them does.
pub record Newest (lefts : List ℕ) (before point kept : ℕ) : Type 0 where
  pub some : kept ≢ 65535 → (kept < before) × (slice_index lefts kept ≡ point)
  pub none_since : (number : ℕ) → (kept ≡ 65535) ⊎ (kept < number) → number < before → slice_index lefts number ≢ point

-- how the index keeps an answer: the number of a bound, or 65,535 for none
abbrev pub kept_of : Option ℕ → ℕ
kept_of None = 65535
kept_of (Some number) = number

-- an index that lists no book
abbrev pub unlisted : ByLeft
unlisted = record { newest = replicate 128 0; older = replicate 65535 0 }

-- the index lists bounds with these left points, in the order of their numbers
pub record Lists (index : ByLeft) (lefts : List ℕ) : Type 0 where
  pub few : length lefts ≤ 65535
  pub newest : (point : ℕ) → point < 128 → Newest lefts (length lefts) point (slice_index index.newest point)
  pub older : (number : ℕ) → number < length lefts → Newest lefts number (slice_index lefts number) (slice_index index.older number)
