-- Labels round by round: after n rounds they meet the bounds, or the bounds hold a chain. Assumes nothing.
use Rattle.std.proofs.Common.{◌≡◌, ℕ, zero, suc, ◌+◌, ◌-◌, ◌<◌, ◌≤◌, Bool, true, false, cond, ltb, ◌⊎◌, sym, refl, ap, ◌∙◌, subst, inl, inr, ⊎_elim, arith}
use Rattle.std.specs.List.{All, Contains}
use Rattle.std.proofs.lemmas.List.Elements.{All-weaker, All-contains, All-contains_itself}
use Rattle.std.proofs.lemmas.Bool.{cases_Bool, cases_lt, cond-true, cond-false, lt-ltb, le-ltb}
use Rattle.delays.specs.Kind.{Kind, Exact, Lawful}
use Rattle.delays.proofs.TheoryLaws.{theory}
use Rattle.network.specs.Bounds.{ExactBound, Bounds, Inside}
use Rattle.network.specs.Assignments.{Le, Lt, Meets, Solution}
use Rattle.network.specs.Chains.{ChainIn}
use Rattle.network.specs.Rounds.{carry, stretch, Traced}
use Rattle.network.specs.Consistency.{ChainOrSolution, ChainFreeIsMet}
use Rattle.network.proofs.Orders.{not_both, le_lt_trans}
use Rattle.network.proofs.Walking.{chain_refutes}
use Rattle.network.proofs.Repeating.{rounds_repeat}
use Rattle.network.proofs.Relaxing.{best, best_old, best_carried, best_from, Came}

-- a test fails at some number below n, or holds of them all
some_below : (test : ℕ → Bool) (n : ℕ) → ((p : ℕ) × (p < n) × (test p ≡ false)) ⊎ ((p : ℕ) → p < n → test p ≡ true)
some_below test zero = inr (λ p h. absurd (omega arith))
some_below test (suc n) = go (some_below test n) (cases_Bool (test n))
  where
    go : ((p : ℕ) × (p < n) × (test p ≡ false)) ⊎ ((p : ℕ) → p < n → test p ≡ true) → (test n ≡ true) ⊎ (test n ≡ false)
        → ((p : ℕ) × (p < suc n) × (test p ≡ false)) ⊎ ((p : ℕ) → p < suc n → test p ≡ true)
    go (inl f) d = inl (f.0, omega arith, f.2)
    go (inr all) (inr e) = inl (n, omega arith, e)
    go (inr all) (inl e) = inr (λ p h. ⊎_elim (λ l. all p l) (λ l. let same : n ≡ p = omega arith in subst (λ q. test q ≡ true) same e) (cases_lt p n))

-- f below m, and x from m on
extended : {A : Type 0} → ℕ → (ℕ → A) → A → ℕ → A
extended m f x i = cond (ltb i m) (f i) x

extended_old : {A : Type 0} (m : ℕ) (f : ℕ → A) (x : A) (i : ℕ) → i < m → extended m f x i ≡ f i
unfolding extended
extended_old m f x i h = cond-true (ltb i m) (f i) x (lt-ltb i m h)

extended_new : {A : Type 0} (m : ℕ) (f : ℕ → A) (x : A) (i : ℕ) → m ≤ i → extended m f x i ≡ x
unfolding extended
extended_new m f x i h = cond-false (ltb i m) (f i) x (le-ltb i m h)

module _ {k : Kind} (laws : Lawful k) (n : ℕ) (edges : Bounds k) (inside : All (Inside k n) edges) where
  -- the label of p after j rounds, all zero at first
  unfoldable pub label : ℕ → ℕ → Exact k
  label zero p = k.zero
  label (suc j) p = best laws (label j) edges p

  label_grows : (j p : ℕ) → Le k (label j p) (label (suc j) p)
  unfolding label
  label_grows j p = best_old laws (label j) edges p

  pub label_grows_by : (i d j p : ℕ) → i + d ≡ j → Le k (label i p) (label j p)
  label_grows_by i zero j p e = let same : i ≡ j = omega arith in subst (λ m. Le k (label i p) (label m p)) same (laws.reflexive (label i p))
  label_grows_by i (suc d) j p e =
      let same : suc (i + d) ≡ j = omega arith in
      subst (λ m. Le k (label i p) (label m p)) same (laws.transitive _ _ _ (label_grows_by i d (i + d) p refl) (label_grows (i + d) p))

  -- p has a new label in round j + 1
  abbrev Rises : ℕ → ℕ → Type 0
  Rises j p = Lt k (label j p) (label (suc j) p)

  -- the bound over which it came
  record Raised (j p : ℕ) : Type 0 where
    over : ExactBound k
    held : Contains edges over
    reaches : over.right ≡ p
    value : label (suc j) p ≡ carry k (label j over.left) over.delay

  raised : (j p : ℕ) → Rises j p → Raised j p
  unfolding label
  raised j p up = go (best_from laws (label j) edges p)
    where
      go : (best laws (label j) edges p ≡ label j p) ⊎ Came laws (label j) edges p → Raised j p
      go (inl e) = absurd (not_both k _ _ (subst (λ x. Le k x (label j p)) (sym e) (laws.reflexive (label j p))) up)
      go (inr c) = record { over = c.over; held = c.held; reaches = c.reaches; value = c.value }

  -- what a bound carries after j rounds is at most the label of its right point after j + 1
  carried_at : (j : ℕ) (b : ExactBound k) → Contains edges b → Le k (carry k (label j b.left) b.delay) (label (suc j) b.right)
  unfolding label
  carried_at j b held =
      All-contains (λ x. Le k (carry k (label j x.left) x.delay) (best laws (label j) edges x.right)) edges b (best_carried laws (label j) edges) held

  -- The bound that raised p in round j + 2 carried no more than p's label already in round j + 1, unless its left point rose in that round.
  left_rises : (j p : ℕ) → Rises (suc j) p → (r : Raised (suc j) p) → Rises j r.over.left
  left_rises j p up r = ⊎_elim still (λ e. e) (cases_Bool (k.leq (label (suc j) r.over.left) (label j r.over.left)))
    where
      carried : Le k (carry k (label j r.over.left) r.over.delay) (label (suc j) p)
      carried = subst (λ x. Le k (carry k (label j r.over.left) r.over.delay) (label (suc j) x)) r.reaches (carried_at j r.over r.held)

      still : Le k (label (suc j) r.over.left) (label j r.over.left) → Rises j r.over.left
      still h =
          let same : label j r.over.left ≡ label (suc j) r.over.left = laws.antisymmetric _ _ (label_grows j r.over.left) h in
          let under : Le k (label (suc (suc j)) p) (label (suc j) p) =
          subst (λ x. Le k x (label (suc j) p)) (ap (λ x. carry k x r.over.delay) same ∙ sym r.value) carried in
          absurd (not_both k _ _ under up)

  -- rounds traced back from p, whose label after j rounds is the last
  record Trace (j p : ℕ) : Type 0 where
    point : ℕ → ℕ
    via : ℕ → ExactBound k
    traced : Traced k edges n j point (λ i. label i (point i)) via
    last : point j ≡ p

  -- one round more
  module _ (j p : ℕ) (small : p < n) (up : Rises j p) (r : Raised j p) (t : Trace j r.over.left) where
    point' : ℕ → ℕ
    point' = extended (suc j) t.point p

    via' : ℕ → ExactBound k
    via' = extended j t.via r.over

    point_old : (i : ℕ) → i ≤ j → point' i ≡ t.point i
    unfolding point'
    point_old i h = extended_old (suc j) t.point p i (omega arith)

    point_new : (i : ℕ) → suc j ≤ i → point' i ≡ p
    unfolding point'
    point_new i h = extended_new (suc j) t.point p i h

    via_old : (i : ℕ) → i < j → via' i ≡ t.via i
    unfolding via'
    via_old i h = extended_old j t.via r.over i h

    via_new : (i : ℕ) → j ≤ i → via' i ≡ r.over
    unfolding via'
    via_new i h = extended_new j t.via r.over i h

    -- the last point of the trace so far is the bound's left point
    point_last : (i : ℕ) → i ≡ j → point' i ≡ r.over.left
    point_last i e = point_old i (omega arith) ∙ (ap t.point e ∙ t.last)

    leaves' : (i : ℕ) → i < suc j → (via' i).left ≡ point' i
    leaves' i h = ⊎_elim (λ l. ap (λ b. b.left) (via_old i l) ∙ (t.traced.leaves i l ∙ sym (point_old i (omega arith))))
        (λ l. ap (λ b. b.left) (via_new i l) ∙ sym (point_last i (omega arith))) (cases_lt i j)

    reaches' : (i : ℕ) → i < suc j → (via' i).right ≡ point' (i + 1)
    reaches' i h = ⊎_elim (λ l. ap (λ b. b.right) (via_old i l) ∙ (t.traced.reaches i l ∙ sym (point_old (i + 1) (omega arith))))
        (λ l. ap (λ b. b.right) (via_new i l) ∙ (r.reaches ∙ sym (point_new (i + 1) (omega arith)))) (cases_lt i j)

    carry_same : (i : ℕ) {q : ℕ} {b : ExactBound k} → point' i ≡ q → via' i ≡ b → carry k (label i q) b.delay ≡ carry k (label i (point' i)) (via' i).delay
    carry_same i {b = b} e f = ap (λ x. carry k (label i x) b.delay) (sym e) ∙ ap (λ b. carry k (label i (point' i)) b.delay) (sym f)

    carried' : (i : ℕ) → i < suc j → label (i + 1) (point' (i + 1)) ≡ carry k (label i (point' i)) (via' i).delay
    carried' i h = ⊎_elim
        (λ l. ap (label (i + 1)) (point_old (i + 1) (omega arith)) ∙ (t.traced.carried i l ∙ carry_same i (point_old i (omega arith)) (via_old i l)))
        (λ l. let e : j ≡ i = omega arith in
        let next : i + 1 ≡ suc j = omega arith in
        ap (label (i + 1)) (point_new (i + 1) (omega arith)) ∙ (ap (λ m. label m p) next ∙ (r.value
        ∙ (ap (λ m. carry k (label m r.over.left) r.over.delay) e ∙ carry_same i (point_last i (sym e)) (via_new i l))))) (cases_lt i j)

    rises' : (i l : ℕ) → i < l → l ≤ suc j → point' i ≡ point' l → Lt k (label i (point' i)) (label l (point' l))
    rises' i l h u same = ⊎_elim old new (cases_lt l (suc j))
      where
        old : l < suc j → Lt k (label i (point' i)) (label l (point' l))
        old s =
            let a = point_old i (omega arith) in
            let b = point_old l (omega arith) in
            rw (a, b) (t.traced.rises i l h (omega arith) (sym a ∙ (same ∙ b)))

        new : suc j ≤ l → Lt k (label i (point' i)) (label l (point' l))
        new s =
            let b = point_new l s in
            let e : suc j ≡ l = omega arith in
            let below : Lt k (label i p) (label (suc j) p) = le_lt_trans laws _ _ _ (label_grows_by i (j - i) j p (omega arith)) up in
            rw (same ∙ b, b) (subst (λ m. Lt k (label i p) (label m p)) e below)

    further : Trace (suc j) p
    further = record {
      point = point';
      via = via';
      traced = record {
        inside = λ i h. ⊎_elim (λ l. rw (point_old i (omega arith)) (t.traced.inside i (omega arith))) (λ l. rw (point_new i l) small) (cases_lt i (suc j));
        held = λ i h. ⊎_elim (λ l. rw (via_old i l) (t.traced.held i l)) (λ l. rw (via_new i l) r.held) (cases_lt i j);
        leaves = leaves';
        reaches = reaches';
        carried = carried';
        rises = rises';
      };
      last = point_new (suc j) (omega arith);
    }

  left_inside : (b : ExactBound k) → Contains edges b → b.left < n
  left_inside b held = (All-contains (Inside k n) edges b inside held).left

  -- a point that rises in round j + 1 is traced back to the first round
  traces : (j p : ℕ) → p < n → Rises j p → Trace (suc j) p
  traces zero p small up =
      let r = raised 0 p up in
      let q = r.over.left in
      further 0 p small up r (record {
        point = λ i. q;
        via = λ i. r.over;
        traced = record {
          inside = λ i h. left_inside r.over r.held;
          held = λ i h. absurd (omega arith);
          leaves = λ i h. absurd (omega arith);
          reaches = λ i h. absurd (omega arith);
          carried = λ i h. absurd (omega arith);
          rises = λ i l h u e. absurd (omega arith);
        };
        last = refl;
      })
  traces (suc j) p small up =
      let r = raised (suc j) p up in
      further (suc j) p small up r (traces j r.over.left (left_inside r.over r.held) (left_rises j p up r))

  -- the labels after n rounds, less that of point 0
  unfoldable pub settled : ℕ → Exact k
  settled p = carry k (label n p) (label n 0)

  -- labels that the next round leaves alone meet each bound, and so do they less that of point 0
  rest_meets : ((p : ℕ) → p < n → Le k (label (suc n) p) (label n p)) → (b : ExactBound k) → Contains edges b → Meets k settled b
  unfolding settled
  rest_meets still b held =
      let x = label n b.left in
      let y = label n b.right in
      let z = k.opposite (label n 0) in
      let right : b.right < n = (All-contains (Inside k n) edges b inside held).right in
      let met : Le k x (k.sum y b.delay) = (theory laws).move_left x y b.delay (laws.transitive _ _ _ (carried_at n b held) (still b.right right)) in
      let moved : k.sum (k.sum y b.delay) z ≡ k.sum (k.sum y z) b.delay =
      laws.assoc y b.delay z ∙ (ap (k.sum y) (laws.comm b.delay z) ∙ sym (laws.assoc y z b.delay)) in
      subst (λ w. Le k (k.sum x z) w) moved (laws.shifts _ _ z met)

  pub rest_solves : ((p : ℕ) → p < n → Le k (label (suc n) p) (label n p)) → Solution k edges settled
  unfolding settled
  rest_solves still = record {
    zero_first = laws.cancels (label n 0);
    meets = All-weaker (Contains edges) (Meets k settled) (rest_meets still) edges (All-contains_itself edges);
  }

  -- After n rounds the labels rest, or some point still rises. Then it has risen in each round, and more rounds than points were traced.
  pub chain_or_rest : ((row : Bounds k) × ChainIn k edges row) ⊎ ((p : ℕ) → p < n → Le k (label (suc n) p) (label n p))
  chain_or_rest = go (some_below (λ p. k.leq (label (suc n) p) (label n p)) n)
    where
      go : ((p : ℕ) × (p < n) × Rises n p) ⊎ ((p : ℕ) → p < n → Le k (label (suc n) p) (label n p))
          → ((row : Bounds k) × ChainIn k edges row) ⊎ ((p : ℕ) → p < n → Le k (label (suc n) p) (label n p))
      go (inr still) = inr still
      go (inl f) =
          let t = traces n f.0 f.1 f.2 in
          let r = rounds_repeat laws edges n (suc n) t.point (λ i. label i (t.point i)) t.via t.traced (omega arith) in
          inl (stretch t.via r.from r.to, r.chain)

pub chain_or_solution : {k : Kind} → Lawful k → ChainOrSolution k
chain_or_solution laws n edges inside =
    ⊎_elim (λ c. inl c) (λ still. inr (settled laws n edges inside, rest_solves laws n edges inside still)) (chain_or_rest laws n edges inside)

pub chain_free_is_met : {k : Kind} → Lawful k → ChainFreeIsMet k
chain_free_is_met laws n edges inside = (
  λ free. ⊎_elim (λ c. absurd (free c.0 c.1)) (λ s. s) (chain_or_solution laws n edges inside),
  λ t s row c. chain_refutes laws edges row c t s,
)
