-- When bounds can be met: exactly when they hold no chain. Assumes nothing.
use Rattle.std.specs.Prelude.{ℕ, ◌<◌, ◌⊎◌, All}
use Rattle.delays.specs.Kind.{Kind, Exact}
use Rattle.network.specs.Bounds.{Bounds, bounds_in_force, Inside}
use Rattle.network.specs.Assignments.{Solution}
use Rattle.network.specs.Chains.{ChainIn}
use Rattle.network.specs.Earliest.{Earliest}

-- bounds whose points are below n hold a chain, or some assignment meets them
abbrev pub ChainOrSolution : Kind → Type 0
ChainOrSolution k = (n : ℕ) (edges : Bounds k) → All (Inside k n) edges
    → ((row : Bounds k) × ChainIn k edges row) ⊎ ((t : ℕ → Exact k) × Solution k edges t)

-- so they hold no chain exactly when some assignment meets them
abbrev pub ChainFreeIsMet : Kind → Type 0
ChainFreeIsMet k = (n : ℕ) (edges : Bounds k) → All (Inside k n) edges
    → (((row : Bounds k) → ChainIn k edges row → ⊥) → (t : ℕ → Exact k) × Solution k edges t)
    × ((t : ℕ → Exact k) → Solution k edges t → (row : Bounds k) → ChainIn k edges row → ⊥)

-- the bounds in force hold a chain, or each point below n has an earliest time, and the earliest times meet the bounds
abbrev pub ChainOrEarliest : Kind → Type 0
ChainOrEarliest k = (n : ℕ) (book : Bounds k) → 0 < n → All (Inside k n) book
    → ((row : Bounds k) × ChainIn k (bounds_in_force k n book) row)
    ⊎ ((t : ℕ → Exact k) × Solution k (bounds_in_force k n book) t × ((p : ℕ) → p < n → Earliest k (bounds_in_force k n book) p (t p)))

pub record Consistency (k : Kind) : Type 0 where
  pub either : ChainOrSolution k
  pub free : ChainFreeIsMet k
  pub earliest : ChainOrEarliest k
