-- The bounds in force hold a chain, or have earliest times. Assumes nothing.
use Rattle.std.proofs.Common.{◌≡◌, ℕ, zero, suc, ◌<◌, ◌⊎◌, [], ◌∷◌, ◌++◌, sym, refl, ap, ◌∙◌, subst, inl, inr, ⊎_elim, arith}
use Rattle.std.specs.List.{All, Contains}
use Rattle.std.proofs.lemmas.List.Elements.{All-contains, All-push, All-nil, All-cons}
use Rattle.delays.specs.Kind.{Kind, Exact, Lawful}
use Rattle.delays.proofs.TheoryLaws.{theory}
use Rattle.network.specs.Bounds.{ExactBound, Bounds, floor_of, bounds_in_force, Inside}
use Rattle.network.specs.Assignments.{Le, Solution}
use Rattle.network.specs.Walks.{sum_of}
use Rattle.network.specs.Earliest.{Earliest, Reached}
use Rattle.network.specs.Rounds.{carry}
use Rattle.network.specs.Consistency.{ChainOrEarliest}
use Rattle.network.proofs.InForce.{floor_held, force_inside}
use Rattle.network.proofs.Relaxing.{best, best_from, Came}
use Rattle.network.proofs.Settling.{label, label_grows_by, settled, rest_solves, chain_or_rest}
use Rattle.network.proofs.Shortening.{sum_of-append, earliest_reached}
use Rattle.network.proofs.Turning.{walk_push}
use Rattle.network.proofs.Walking.{walk_bounds_below}

module _ {k : Kind} (laws : Lawful k) where
  -- one bound more at the end of a walk from point 0
  pub reached_over : (edges : Bounds k) (b : ExactBound k) (x : Exact k) → Contains edges b → Reached k edges b.left x
      → Reached k edges b.right (carry k x b.delay)
  reached_over edges b x held r = record {
    row = r.row ++ b ∷ [];
    walk = walk_push r.row b 0 b.left r.walk refl;
    held = All-push (Contains edges) r.row b r.held held;
    value = ap (λ y. carry k y b.delay) r.value ∙ (sym ((theory laws).opposite_sum (sum_of k r.row) b.delay)
        ∙ ap k.opposite (ap (k.sum (sum_of k r.row)) (sym (laws.zero_adds_nothing b.delay)) ∙ sym (sum_of-append laws r.row (b ∷ []))));
  }

  -- zero is reached over the floor
  pub reached_floor : (edges : Bounds k) (p : ℕ) → Contains edges (floor_of k p) → Reached k edges p k.zero
  reached_floor edges p held = record {
    row = floor_of k p ∷ [];
    walk = (refl, refl);
    held = All-cons (Contains edges) (floor_of k p) [] held (All-nil (Contains edges));
    value = sym (ap k.opposite (laws.zero_adds_nothing k.zero) ∙ (theory laws).opposite_zero);
  }

  module _ (n : ℕ) (edges : Bounds k) (inside : All (Inside k n) edges) (floored : (p : ℕ) → p < n → Contains edges (floor_of k p)) where
    -- the best labels are reached where the old ones are
    reached_best : (old : ℕ → Exact k) → ((p : ℕ) → p < n → Reached k edges p (old p)) → (p : ℕ) → p < n → Reached k edges p (best laws old edges p)
    reached_best old reached p h = go (best_from laws old edges p)
      where
        go : (best laws old edges p ≡ old p) ⊎ Came laws old edges p → Reached k edges p (best laws old edges p)
        go (inl e) = subst (Reached k edges p) (sym e) (reached p h)
        go (inr c) =
            let b = c.over in
            let left : b.left < n = (All-contains (Inside k n) edges b inside c.held).left in
            subst (λ q. Reached k edges q (best laws old edges p)) c.reaches
            (subst (Reached k edges b.right) (sym c.value) (reached_over edges b (old b.left) c.held (reached b.left left)))

    -- each label is the opposite of the sum of some walk
    reached_label : (j p : ℕ) → p < n → Reached k edges p (label laws n edges inside j p)
    unfolding label
    reached_label zero p h = reached_floor edges p (floored p h)
    reached_label (suc j) p h = reached_best (label laws n edges inside j) (reached_label j) p h

    -- Point 0 stays at zero: its label is the opposite of a walk's sum, which is at most zero where some assignment meets the bounds.
    label_first : 0 < n → Solution k edges (settled laws n edges inside) → label laws n edges inside n 0 ≡ k.zero
    unfolding label
    label_first some s =
        let r = reached_label n 0 some in
        let l = label laws n edges inside n 0 in
        let above : Le k k.zero l = label_grows_by laws n edges inside 0 n n 0 (omega arith) in
        let under : Le k l k.zero =
        subst (λ x. Le k x k.zero) (sym r.value)
        (subst (Le k (k.opposite (sum_of k r.row))) s.zero_first (walk_bounds_below laws edges _ s 0 r.row r.walk r.held)) in
        laws.antisymmetric l k.zero under above

    settled_label : 0 < n → Solution k edges (settled laws n edges inside) → (p : ℕ) → label laws n edges inside n p ≡ settled laws n edges inside p
    unfolding settled
    settled_label some s p =
        let x = label laws n edges inside n p in
        sym (laws.zero_adds_nothing x) ∙ ap (k.sum x) (sym (theory laws).opposite_zero ∙ ap k.opposite (sym (label_first some s)))

    pub settled_earliest : 0 < n → Solution k edges (settled laws n edges inside) → (p : ℕ) → p < n → Earliest k edges p (settled laws n edges inside p)
    settled_earliest some s p h =
        earliest_reached laws edges (settled laws n edges inside) s p (subst (Reached k edges p) (settled_label some s p) (reached_label n p h))

  pub chain_or_earliest : ChainOrEarliest k
  chain_or_earliest n book some inside =
      let edges = bounds_in_force k n book in
      let all = force_inside k n book some inside in
      ⊎_elim (λ c. inl c)
      (λ still. let s = rest_solves laws n edges all still in inr (settled laws n edges all, s, settled_earliest n edges all (floor_held k n book) some s))
      (chain_or_rest laws n edges all)
