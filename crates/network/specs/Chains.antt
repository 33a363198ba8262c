-- Chains: rows of bounds that no assignment meets. Assumes nothing.
use Rattle.std.specs.Prelude.{◌≡◌, ℕ, [], ◌∷◌, ◌++◌, All, Contains}
use Rattle.delays.specs.Kind.{Kind, Exact}
use Rattle.network.specs.Bounds.{ExactBound, Bounds, bounds_in_force}
use Rattle.network.specs.Assignments.{Lt, Solution}
use Rattle.network.specs.Walks.{sum_of, Walk, lefts, Apart}

-- a closed row, each right point the next left point and the last right point the first left one, with no left point
-- twice and a sum below zero
pub record Chain (k : Kind) (row : Bounds k) : Type 0 where
  pub start : ℕ
  pub closed : Walk start row start
  pub apart : Apart (lefts row)
  pub below : Lt k (sum_of k row) k.zero

-- a chain that the list holds: each of its bounds is in the list
pub record ChainIn (k : Kind) (edges row : Bounds k) : Type 0 where
  pub chain : Chain k row
  pub held : All (Contains edges) row

-- the row holds the bound, and turned so that it begins with the bound it is a chain that the list holds
pub record ChainFrom (k : Kind) (edges : Bounds k) (b : ExactBound k) (row : Bounds k) : Type 0 where
  pub front : Bounds k
  pub back : Bounds k
  pub split : row ≡ front ++ (b ∷ back)
  pub turned : ChainIn k edges (b ∷ (back ++ front))

-- The theorems.

-- bounds that hold a chain are met by no assignment
abbrev pub ChainRefutes : Kind → Type 0
ChainRefutes k = (edges row : Bounds k) → ChainIn k edges row → (t : ℕ → Exact k) → Solution k edges t → ⊥

-- a chain may begin at any of its bounds
abbrev pub ChainTurns : Kind → Type 0
ChainTurns k = (edges front back : Bounds k) → ChainIn k edges (front ++ back) → ChainIn k edges (back ++ front)

-- where a bound is posted to bounds that can be met, every chain that arises holds it, and may begin with it
abbrev pub ChainFromPosted : Kind → Type 0
ChainFromPosted k = (n : ℕ) (book : Bounds k) (b : ExactBound k) (t : ℕ → Exact k) → Solution k (bounds_in_force k n book) t
    → (row : Bounds k) → ChainIn k (bounds_in_force k n (book ++ b ∷ [])) row → ChainFrom k (bounds_in_force k n (book ++ b ∷ [])) b row

pub record ChainTheory (k : Kind) : Type 0 where
  pub refutes : ChainRefutes k
  pub turns : ChainTurns k
  pub posted : ChainFromPosted k
