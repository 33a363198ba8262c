-- Walks bound the times of assignments, so a chain refutes every assignment. Assumes nothing.
use Rattle.std.proofs.Common.{ℕ, [], ◌∷◌}
use Rattle.std.specs.List.{All, Contains}
use Rattle.std.proofs.lemmas.List.Elements.{All-weaker, All-contains, All-head, All-tail}
use Rattle.delays.specs.Kind.{Kind, Exact, Lawful}
use Rattle.network.specs.Bounds.{Bounds}
use Rattle.network.specs.Assignments.{Le, Meets, Solution}
use Rattle.network.specs.Walks.{sum_of, Walk, WalkBounds, WalkBoundsBelow}
use Rattle.network.specs.Chains.{ChainRefutes}
use Rattle.network.proofs.Orders.{not_both, step, opposite_at_most, zero_at_most}

-- bounds of a list are met by what meets the list
pub held_met : {k : Kind} (edges : Bounds k) (t : ℕ → Exact k) → Solution k edges t → (row : Bounds k) → All (Contains edges) row → All (Meets k t) row
held_met {k} edges t s row held = All-weaker (Contains edges) (Meets k t) (λ b. All-contains (Meets k t) edges b s.meets) row held

module _ {k : Kind} (laws : Lawful k) where
  -- Each bound lets the time of its left point exceed that of its right point by its delay at most; along a walk these add up.
  along : (t : ℕ → Exact k) (row : Bounds k) (p q : ℕ) → Walk p row q → All (Meets k t) row → Le k (t p) (k.sum (t q) (sum_of k row))
  along t [] p q e met = rw (e, laws.zero_adds_nothing (t q)) (laws.reflexive (t q))
  along t (b ∷ bs) p q w met =
      let first : Le k (t p) (k.sum (t b.right) b.delay) = rw w.0 at (All-head (Meets k t) b bs met) in
      step laws (t p) (t b.right) (t q) b.delay (sum_of k bs) first (along t bs b.right q w.1 (All-tail (Meets k t) b bs met))

  pub walk_bounds : WalkBounds k
  walk_bounds edges t s p q row w held = along t row p q w (held_met edges t s row held)

  pub walk_bounds_below : WalkBoundsBelow k
  walk_bounds_below edges t s p row w held = opposite_at_most laws (t p) (sum_of k row) (rw s.zero_first at (walk_bounds edges t s 0 p row w held))

  -- a closed walk over bounds that can be met has no sum below zero
  pub closed_at_least : (edges : Bounds k) (t : ℕ → Exact k) → Solution k edges t
      → (p : ℕ) (row : Bounds k) → Walk p row p → All (Contains edges) row → Le k k.zero (sum_of k row)
  closed_at_least edges t s p row w held = zero_at_most laws (t p) (sum_of k row) (walk_bounds edges t s p p row w held)

  pub chain_refutes : ChainRefutes k
  chain_refutes edges row c t s =
      not_both k k.zero (sum_of k row) (closed_at_least edges t s c.chain.start row c.chain.closed c.held) c.chain.below
