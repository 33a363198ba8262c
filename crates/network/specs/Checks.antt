-- What the checks of times, of chains and of walks answer. Assumes nothing.
use Rattle.std.specs.Prelude.{◌≡◌, ℕ, ◌<◌, ◌≤◌, Bool, List, length, take, Some, None, Ok, Err, Decides, Option, Result, slice_index_or, All}
use Rattle.delays.specs.Kind.{Kind, Exact, Within}
use Rattle.network.specs.declared.edge.Edge.{Edge}
use Rattle.network.specs.declared.times.Mismatch.{Mismatch}
use Rattle.network.specs.declared.times.Mismatch.TheVariants.{Start, Reach, Unmet}
use Rattle.network.specs.Assignments.{Meets, Solution, limit}
use Rattle.network.specs.Walks.{sum_of, Walk, lefts, Apart}
use Rattle.network.specs.Chains.{Chain}
use Rattle.network.specs.Edges.{bound_of, bounds_of, time_of_point}

module _ {X : Type 0} (k : Kind) (means : X → Exact k) where
  -- the limit that the edge sets under the times
  abbrev pub limit_at : List X → Edge X → Exact k
  limit_at times e = limit k (time_of_point k means times) (bound_of k means e)

  -- the times meet the edge
  abbrev pub Met : List X → Edge X → Type 0
  Met times e = Meets k (time_of_point k means times) (bound_of k means e)

  -- the times meet the edge, and its limit is within the reach
  abbrev pub MetWithin : List X → Edge X → Type 0
  MetWithin times e = Within k (limit_at times e) × Met times e

  -- whether the times meet the edge, or nothing where its limit is past the reach
  abbrev pub EdgeChecked : List X → Edge X → Option Bool → Type 0
  EdgeChecked times e None = k.reach < k.size (limit_at times e)
  EdgeChecked times e (Some r) = Within k (limit_at times e) × Decides r (Met times e)

  -- the times meet the edges up to the number i, and P holds of the edge with that number
  pub record MetUpto (edges : List (Edge X)) (times : List X) (i : ℕ) (P : Edge X → Type 0) : Type 0 where
    pub zero_first : time_of_point k means times 0 ≡ k.zero
    pub before : All (MetWithin times) (take i edges)
    pub number : i < length edges
    pub here : (e : Edge X) → P (slice_index_or edges i e)

  -- the answer to times: they meet every edge; or point 0 is not at zero; or the number of the first edge that can't be checked or is not met
  abbrev pub TimesChecked : List (Edge X) → List X → Result (Unit {0}) Mismatch → Type 0
  TimesChecked edges times (Ok _) = Solution k (bounds_of k means edges) (time_of_point k means times) × All (λ e. Within k (limit_at times e)) edges
  TimesChecked edges times (Err Start) = time_of_point k means times 0 ≡ k.zero → ⊥
  TimesChecked edges times (Err (Reach i)) = MetUpto edges times i (λ e. k.reach < k.size (limit_at times e))
  TimesChecked edges times (Err (Unmet i)) = MetUpto edges times i (λ e. Within k (limit_at times e) × (Met times e → ⊥))

  -- the sum of the first n edges of a row
  abbrev pub sum_upto : List (Edge X) → ℕ → Exact k
  sum_upto row n = sum_of k (bounds_of k means (take n row))

  -- a sum on the way is past the reach
  abbrev pub PastReach : List (Edge X) → Type 0
  PastReach row = (n : ℕ) × (n ≤ length row) × (k.reach < k.size (sum_upto row n))

  -- the sum of the row, where each sum on the way is within the reach; or nothing where one of them is not
  abbrev pub RowSummed : List (Edge X) → Option X → Type 0
  RowSummed row None = PastReach row
  RowSummed row (Some v) = (means v ≡ sum_of k (bounds_of k means row)) × ((n : ℕ) → n ≤ length row → Within k (sum_upto row n))

  -- a cycle: a closed row with no left point twice
  abbrev pub Cycle : List (Edge X) → Type 0
  Cycle row = (p : ℕ) × Walk p (bounds_of k means row) p × Apart (lefts (bounds_of k means row))

  -- the answer to a row: whether it is a chain, or nothing where it is closed with no left point twice and a sum on the way is past the reach
  abbrev pub ChainChecked : List (Edge X) → Option Bool → Type 0
  ChainChecked row None = Cycle row × PastReach row
  ChainChecked row (Some r) = Decides r (Chain k (bounds_of k means row)) × (Cycle row → PastReach row → ⊥)

  -- the row leads from point 0 to p, and x is the opposite of its sum
  abbrev pub ComesOver : List (Edge X) → ℕ → X → Type 0
  ComesOver row p x = Walk 0 (bounds_of k means row) p × (means x ≡ k.opposite (sum_of k (bounds_of k means row)))

  -- whether it is so, or nothing where the row leads to p and a sum on the way is past the reach
  abbrev pub ComesChecked : List (Edge X) → ℕ → X → Option Bool → Type 0
  ComesChecked row p x None = Walk 0 (bounds_of k means row) p × PastReach row
  ComesChecked row p x (Some r) = Decides r (ComesOver row p x) × (Walk 0 (bounds_of k means row) p → PastReach row → ⊥)
