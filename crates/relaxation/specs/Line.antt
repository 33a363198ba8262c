-- The line of waiting points: its points in the order of their coming, and what comes of it when one more comes. Assumes nothing.
use Rattle.std.specs.Prelude.{◌≡◌, ℕ, ◌+◌, ◌%◌, ◌<◌, ◌≤◌, ◌⊎◌, ◌↔◌, IsTrue, Bool, false, List, [], ◌∷◌, ◌++◌, map, slice_index, slice_index_or}
use Rattle.std.specs.List.{All, Contains, range_with_len}
use Rattle.network.specs.Walks.{Apart}

-- what stands in so many places of a ring of 128 from the first of them on, past the ring's end from its start on
unfoldable pub places_from : List ℕ → (first count : ℕ) → List ℕ
places_from ring first count = map (λ i. slice_index ring ((first + i) % 128)) (range_with_len 0 count)

-- a line: its points are below 128, and none stands in it twice
pub record Waiting (line : List ℕ) : Type 0 where
  pub inside : All (λ point. point < 128) line
  pub apart : Apart line

-- a ring of so many places from the first on that holds a line, and for each point below 128 whether it waits in it
pub record Kept (ring : List ℕ) (waits : List Bool) (first count : ℕ) : Type 0 where
  pub few : count ≤ 128
  pub waiting : Waiting (places_from ring first count)
  pub told : (point : ℕ) → point < 128 → IsTrue (slice_index_or waits point false) ↔ Contains (places_from ring first count) point

-- a line: the points that wait, in the order of their coming, and how many were taken off since it was cleared
pub record Queue : Type 0 where
  pub waiting : List ℕ
  pub taken : ℕ

-- the point has come to the line: it stands at the end, unless it waited already
abbrev pub Joined : (before : List ℕ) → ℕ → (after : List ℕ) → Type 0
Joined before point after =
    (Contains before point × (after ≡ before)) ⊎ ((Contains before point → ⊥) × (after ≡ before ++ point ∷ []))
