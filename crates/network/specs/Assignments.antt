-- Assignments of times to points, and the bounds that they meet. Assumes nothing.
use Rattle.std.specs.Prelude.{◌≡◌, ℕ, true, false, All}
use Rattle.delays.specs.Kind.{Kind, Exact}
use Rattle.network.specs.Bounds.{ExactBound, Bounds}

-- x is at most y
abbrev pub Le : (k : Kind) → Exact k → Exact k → Type 0
Le k x y = k.leq x y ≡ true

-- x is below y
abbrev pub Lt : (k : Kind) → Exact k → Exact k → Type 0
Lt k x y = k.leq y x ≡ false

-- the limit that a bound sets to the time of its left point: the time of its right point plus the delay
abbrev pub limit : (k : Kind) → (ℕ → Exact k) → ExactBound k → Exact k
limit k t b = k.sum (t b.right) b.delay

-- times meet a bound where that of the left point is at most the limit
abbrev pub Meets : (k : Kind) → (ℕ → Exact k) → ExactBound k → Type 0
Meets k t b = Le k (t b.left) (limit k t b)

-- an assignment, which gives each point a time and point 0 the time zero, that meets every bound of the list
pub record Solution (k : Kind) (edges : Bounds k) (t : ℕ → Exact k) : Type 0 where
  pub zero_first : t 0 ≡ k.zero
  pub meets : All (Meets k t) edges
