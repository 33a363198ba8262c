-- Walks over bounds, their sums, and paths. Assumes nothing.
use Rattle.std.specs.Prelude.{◌≡◌, ◌≢◌, ℕ, ◌<◌, List, [], ◌∷◌, map, length, All, AllPairs, Contains}
use Rattle.delays.specs.Kind.{Kind, Exact}
use Rattle.delays.specs.Totals.{total}
use Rattle.network.specs.Bounds.{Bounds, Inside}
use Rattle.network.specs.Assignments.{Le, Solution}

-- the sum of a row of bounds: that of their delays
abbrev pub sum_of : (k : Kind) → Bounds k → Exact k
sum_of k row = total k (map (λ b. b.delay) row)

-- a row of bounds that leads from p to q: each right point is the next left point
abbrev pub Walk : {k : Kind} → ℕ → Bounds k → ℕ → Type 0
Walk p [] q = p ≡ q
Walk p (b ∷ bs) q = (b.left ≡ p) × Walk b.right bs q

-- the left points of a row
abbrev pub lefts : {k : Kind} → Bounds k → List ℕ
lefts row = map (λ b. b.left) row

-- the points that a walk from p comes to, p first
abbrev pub stops : {k : Kind} → ℕ → Bounds k → List ℕ
stops p row = p ∷ map (λ b. b.right) row

-- no number twice
unfoldable pub Apart : List ℕ → Type 0
Apart = AllPairs ◌≢◌

-- a path from p to q: a walk over bounds of the list in which no point comes twice
pub record Path (k : Kind) (edges : Bounds k) (p q : ℕ) (row : Bounds k) : Type 0 where
  pub walk : Walk p row q
  pub apart : Apart (stops p row)
  pub held : All (Contains edges) row

-- a path from p to q whose sum is at most that of the row
pub record Shorter (k : Kind) (edges : Bounds k) (p q : ℕ) (row : Bounds k) : Type 0 where
  pub cut : Bounds k
  pub path : Path k edges p q cut
  pub less : Le k (sum_of k cut) (sum_of k row)

-- The theorems.

-- along a walk from p to q over bounds that an assignment meets, the time of p is at most that of q plus the sum
abbrev pub WalkBounds : Kind → Type 0
WalkBounds k = (edges : Bounds k) (t : ℕ → Exact k) → Solution k edges t
    → (p q : ℕ) (row : Bounds k) → Walk p row q → All (Contains edges) row → Le k (t p) (k.sum (t q) (sum_of k row))

-- so a time is at least the opposite of the sum of any walk to its point from point 0
abbrev pub WalkBoundsBelow : Kind → Type 0
WalkBoundsBelow k = (edges : Bounds k) (t : ℕ → Exact k) → Solution k edges t
    → (p : ℕ) (row : Bounds k) → Walk 0 row p → All (Contains edges) row → Le k (k.opposite (sum_of k row)) (t p)

-- where some assignment meets the bounds, a walk can be cut to a path whose sum is no more
abbrev pub WalkShortens : Kind → Type 0
WalkShortens k = (edges : Bounds k) (t : ℕ → Exact k) → Solution k edges t
    → (p q : ℕ) (row : Bounds k) → Walk p row q → All (Contains edges) row → Shorter k edges p q row

-- over points below n, a path has fewer than n bounds
abbrev pub PathShort : Kind → Type 0
PathShort k = (n : ℕ) (edges : Bounds k) → All (Inside k n) edges → (p q : ℕ) → p < n → (row : Bounds k) → Path k edges p q row → length row < n

pub record WalkTheory (k : Kind) : Type 0 where
  pub bounds : WalkBounds k
  pub below : WalkBoundsBelow k
  pub shortens : WalkShortens k
  pub short : PathShort k
