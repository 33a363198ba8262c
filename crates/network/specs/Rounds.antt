-- Relaxation by rounds: what a point that still rises after many rounds shows. Assumes nothing.
use Rattle.std.specs.Prelude.{◌≡◌, ℕ, ◌+◌, ◌-◌, ◌<◌, ◌≤◌, map, Contains}
use Rattle.std.specs.List.{range_with_len}
use Rattle.delays.specs.Kind.{Kind, Exact}
use Rattle.network.specs.Bounds.{ExactBound, Bounds}
use Rattle.network.specs.Assignments.{Lt}
use Rattle.network.specs.Chains.{ChainIn}

-- the label that a point gets over a bound with the delay d, from a left point with the label x
abbrev pub carry : (k : Kind) → Exact k → Exact k → Exact k
carry k x d = k.sum x (k.opposite d)

-- A relaxation traced back over m rounds: point i + 1 got its label in round i + 1, from point i and over the bound `via i`.
-- The labels of one point rise from round to round.
pub record Traced (k : Kind) (edges : Bounds k) (n m : ℕ) (point : ℕ → ℕ) (label : ℕ → Exact k) (via : ℕ → ExactBound k) : Type 0 where
  pub inside : (i : ℕ) → i ≤ m → point i < n
  pub held : (i : ℕ) → i < m → Contains edges (via i)
  pub leaves : (i : ℕ) → i < m → (via i).left ≡ point i
  pub reaches : (i : ℕ) → i < m → (via i).right ≡ point (i + 1)
  pub carried : (i : ℕ) → i < m → label (i + 1) ≡ carry k (label i) (via i).delay
  pub rises : (i j : ℕ) → i < j → j ≤ m → point i ≡ point j → Lt k (label i) (label j)

-- the bounds of the rounds from i up to j
abbrev pub stretch : {k : Kind} → (ℕ → ExactBound k) → ℕ → ℕ → Bounds k
stretch via i j = map via (range_with_len i (j - i))

-- the rounds `from` and `to` have one point, before `to` no point comes twice, and the bounds between them are a chain
pub record Repeated (k : Kind) (edges : Bounds k) (m : ℕ) (point : ℕ → ℕ) (via : ℕ → ExactBound k) : Type 0 where
  pub from : ℕ
  pub to : ℕ
  pub before : from < to
  pub within : to ≤ m
  pub same : point from ≡ point to
  pub first : (i j : ℕ) → i < j → j < to → point i ≡ point j → ⊥
  pub chain : ChainIn k edges (stretch via from to)

-- The theorem.

-- over n points, n rounds or more that each raise a label took the bounds of a chain: those up to the first repeat of a point
abbrev pub RoundsRepeat : Kind → Type 0
RoundsRepeat k = (edges : Bounds k) (n m : ℕ) (point : ℕ → ℕ) (label : ℕ → Exact k) (via : ℕ → ExactBound k)
    → Traced k edges n m point label via → n ≤ m → Repeated k edges m point via
