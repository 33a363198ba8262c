-- Earliest times. Assumes nothing.
use Rattle.std.specs.Prelude.{◌≡◌, ℕ, ◌*◌, ◌<◌, ◌≤◌, All, Contains}
use Rattle.delays.specs.Kind.{Kind, Exact}
use Rattle.network.specs.Bounds.{Bounds, Inside}
use Rattle.network.specs.Assignments.{Le, Solution}
use Rattle.network.specs.Walks.{sum_of, Walk, Path}

-- x is the earliest time of p: the opposite of the least sum of a path from point 0 to p. The path from 0 to 0 is empty.
pub record Earliest (k : Kind) (edges : Bounds k) (p : ℕ) (x : Exact k) : Type 0 where
  pub row : Bounds k
  pub path : Path k edges 0 p row
  pub value : x ≡ k.opposite (sum_of k row)
  pub least : (other : Bounds k) → Path k edges 0 p other → Le k (sum_of k row) (sum_of k other)

-- x is the opposite of the sum of some walk from point 0 to p
pub record Reached (k : Kind) (edges : Bounds k) (p : ℕ) (x : Exact k) : Type 0 where
  pub row : Bounds k
  pub walk : Walk 0 row p
  pub held : All (Contains edges) row
  pub value : x ≡ k.opposite (sum_of k row)

-- The theorems.

-- times that meet the bounds and are opposites of sums of walks from point 0 are the earliest
abbrev pub EarliestReached : Kind → Type 0
EarliestReached k = (edges : Bounds k) (t : ℕ → Exact k) → Solution k edges t → (p : ℕ) → Reached k edges p (t p) → Earliest k edges p (t p)

-- no assignment that meets the bounds has a point before its earliest time
abbrev pub EarliestLeast : Kind → Type 0
EarliestLeast k = (edges : Bounds k) (p : ℕ) (x : Exact k) → Earliest k edges p x → (u : ℕ → Exact k) → Solution k edges u → Le k x (u p)

-- a point has one earliest time at most
abbrev pub EarliestOne : Kind → Type 0
EarliestOne k = (edges : Bounds k) (p : ℕ) (x y : Exact k) → Earliest k edges p x → Earliest k edges p y → x ≡ y

-- over n points and delays of a size of at most the greatest, an earliest time has a size of at most n times that
abbrev pub EarliestNear : Kind → Type 0
EarliestNear k = (n : ℕ) (edges : Bounds k) → All (Inside k n) edges → All (λ b. k.size b.delay ≤ k.greatest) edges
    → 0 < n → (p : ℕ) (x : Exact k) → Earliest k edges p x → k.size x ≤ n * k.greatest

pub record EarliestTheory (k : Kind) : Type 0 where
  pub reached : EarliestReached k
  pub least : EarliestLeast k
  pub one : EarliestOne k
  pub near : EarliestNear k
