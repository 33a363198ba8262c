-- Trails: the ways back to the root over the bounds that raised points last, and the chain that one closes. Assumes nothing.
use Rattle.std.proofs.Common.{◌≡◌, ℕ, zero, suc, ◌+◌, ◌<◌, ◌≤◌, Bool, true, [], ◌∷◌, ◌++◌, length, get_or}
use Rattle.std.proofs.Common.{refl, sym, ap, ◌∙◌, subst, ⊎_elim, append_assoc, append-nil, arith}
use Rattle.std.specs.List.{All, Contains}
use Rattle.std.proofs.lemmas.Bool.{both_ways}
use Rattle.std.proofs.lemmas.List.{length_push, length-map, map_push, get_or_append_left, get_or_push}
use Rattle.std.proofs.lemmas.List.Elements.{All-nil, All-push, All-map, All-weaker, All-contains}
use Rattle.delays.specs.Kind.{Kind, Exact, Lawful}
use Rattle.network.specs.Bounds.{ExactBound, Bounds, Inside}
use Rattle.network.specs.Assignments.{Le}
use Rattle.network.specs.Walks.{Walk, lefts, Apart}
use Rattle.network.specs.Chains.{ChainIn}
use Rattle.network.proofs.Counting.{apart_nil, apart_cons, apart_turn, apart_length}
use Rattle.network.proofs.Turning.{walk_push}
use Rattle.relaxation.specs.Spreads.{Posed, asked, asked_along, LeadsBack, back, trail, Spread, Closed}
use Rattle.relaxation.proofs.Carrying.{carry_zero, carry_orders, carry_push, round_below}

-- the first step may be taken first
pub back_first : {k : Kind} (over : ℕ → ExactBound k) (i q : ℕ) → back over i (over q).left ≡ back over (suc i) q
back_first over zero q = refl
back_first over (suc i) q = ap (λ p. (over p).left) (back_first over i q)

module _ {k : Kind} (over : ℕ → ExactBound k) where
  pub trail_length : (j q : ℕ) → length (trail k over j q) ≡ j
  trail_length zero q = refl
  trail_length (suc j) q = omega (arith, length_push (trail k over j (over q).left) (over q), trail_length j (over q).left)

  -- the trail up to the point that i steps back lead to, and those i steps
  pub trail_parts : (i m j q : ℕ) → i + m ≡ j → trail k over j q ≡ trail k over m (back over i q) ++ trail k over i q
  trail_parts zero m j q e =
      let same : j ≡ m = omega arith in ap (λ a. trail k over a q) same ∙ sym (append-nil (trail k over m q))
  trail_parts (suc i) m zero q e = absurd (omega arith)
  trail_parts (suc i) m (suc j) q e =
      let p = (over q).left in
      ap {B = Bounds k} (λ l. l ++ over q ∷ []) (trail_parts i m j p (omega arith))
      ∙ (append_assoc (trail k over m (back over i p)) (trail k over i p) (over q ∷ [])
      ∙ ap {B = Bounds k} (λ a. trail k over m a ++ trail k over (suc i) q) (back_first over i q))

  -- the bound at each place of a trail is that of the point reached by the steps after it
  pub trail_at : (i m j q : ℕ) (d : ExactBound k) → i + suc m ≡ j → get_or (trail k over j q) m d ≡ over (back over i q)
  trail_at i m j q d e =
      let p = back over i q in
      let front = trail k over (suc m) p in
      let low : m < length front = omega (arith, trail_length (suc m) p) in
      let last : length (trail k over m (over p).left) ≡ m = trail_length m (over p).left in
      ap (λ l. get_or l m d) (trail_parts i (suc m) j q e) ∙ (get_or_append_left front (trail k over i q) d m low
      ∙ get_or_push (trail k over m (over p).left) (over p) d m last)

module _ {k : Kind} {n : ℕ} {all : Bounds k} {root : ℕ} {start : ℕ → Exact k} {first : ExactBound k → Type 0}
    {risen : ℕ → Bool} {time : ℕ → Exact k} {over : ℕ → ExactBound k} (s : Spread k n all root first start risen time over) where
  pub not_root : (q : ℕ) → risen q ≡ true → q ≡ root → ⊥
  not_root q up e = both_ways (risen q) (ap risen e ∙ s.root_still) up

  -- a point leads back in one number of steps, since the root has not risen
  leads_one : (i j q : ℕ) → LeadsBack k risen over root i q → LeadsBack k risen over root j q → i ≡ j
  leads_one zero zero q a b = refl
  leads_one zero (suc j) q a b = absurd (not_root q b.0 a)
  leads_one (suc i) zero q a b = absurd (not_root q a.0 b)
  leads_one (suc i) (suc j) q a b = ap suc (leads_one i j (over q).left a.1 b.1)

  -- the points passed on the way back
  abbrev Earlier : ℕ → ℕ → Type 0
  Earlier j x = (i : ℕ) × (i < j) × LeadsBack k risen over root i x

  -- Each left point of a trail leads back in a number of steps of its own, so no two are equal.
  lefts_lead : (j q : ℕ) → LeadsBack k risen over root j (over q).left → All (Earlier (suc j)) (lefts (trail k over (suc j) q))
  lefts_lead zero q l = All-push (Earlier 1) [] (over q).left (All-nil (Earlier 1)) (0, omega arith, l)
  lefts_lead (suc j) q l =
      let p = (over q).left in
      let before = All-weaker (Earlier (suc j)) (Earlier (suc (suc j))) (λ x h. (h.0, omega (arith, h.1), h.2)) _ (lefts_lead j p l.1) in
      rw (map_push (λ (b : ExactBound k). b.left) (trail k over (suc j) p) (over q))
      (All-push (Earlier (suc (suc j))) (lefts (trail k over (suc j) p)) p before (suc j, omega arith, l))

  pub lefts_apart : (j q : ℕ) → LeadsBack k risen over root j (over q).left → Apart (lefts (trail k over (suc j) q))
  lefts_apart zero q l = apart_cons (over q).left [] (All-nil (λ y. ¬ ((over q).left ≡ y))) apart_nil
  lefts_apart (suc j) q l =
      let p = (over q).left in
      let before = lefts (trail k over (suc j) p) in
      let other : All (λ y. ¬ (p ≡ y)) before =
      All-weaker (Earlier (suc j)) (λ y. ¬ (p ≡ y))
      (λ y h e. let same : h.0 ≡ suc j = leads_one h.0 (suc j) p (subst (LeadsBack k risen over root h.0) (sym e) h.2) l in omega (arith, h.1, same))
      before (lefts_lead j p l.1) in
      rw (map_push (λ (b : ExactBound k). b.left) (trail k over (suc j) p) (over q)) (apart_turn p before (apart_cons p before other (lefts_apart j p l.1)))

  -- a trail is a walk from the root
  pub trail_walk : (j q : ℕ) → LeadsBack k risen over root j q → Walk root (trail k over j q) q
  trail_walk zero q l = sym l
  trail_walk (suc j) q l =
      let p = (over q).left in
      subst (Walk root (trail k over (suc j) q)) (s.raised q l.0).right (walk_push (trail k over j p) (over q) root p (trail_walk j p l.1) refl)

  pub trail_held : (j q : ℕ) → LeadsBack k risen over root j q → All (Contains all) (trail k over j q)
  trail_held zero q l = All-nil (Contains all)
  trail_held (suc j) q l = All-push (Contains all) (trail k over j (over q).left) (over q) (trail_held j (over q).left l.1) (s.raised q l.0).held

  -- the row begins with one of the bounds `first`
  abbrev Headed : Bounds k → Type 0
  Headed row = (lead : ExactBound k) × (rest : Bounds k) × (row ≡ lead ∷ rest) × first lead

  trail_headed : (j q : ℕ) → ((over q).left ≡ root → first (over q)) → LeadsBack k risen over root j (over q).left → Headed (trail k over (suc j) q)
  trail_headed zero q begins l = (over q, [], refl, begins l)
  trail_headed (suc j) q begins l =
      let h = trail_headed j (over q).left (s.raised (over q).left l.0).begins l.1 in
      (h.0, h.1 ++ over q ∷ [], ap {B = Bounds k} (λ row. row ++ over q ∷ []) h.2, h.3)

-- the trail back from the root itself, over the bound noted for it, is a chain, and begins with one of the bounds `first`
pub record ClosedChain (k : Kind) (n : ℕ) (all : Bounds k) (root : ℕ) (first : ExactBound k → Type 0) (risen : ℕ → Bool)
    (over : ℕ → ExactBound k) : Type 0 where
  pub steps : ℕ
  pub leads : LeadsBack k risen over root steps (over root).left
  pub short : steps < n
  pub chain : ChainIn k all (trail k over (suc steps) root)
  pub lead : ExactBound k
  pub rest : Bounds k
  pub row : trail k over (suc steps) root ≡ lead ∷ rest
  pub begins : first lead

module _ {k : Kind} (laws : Lawful k) {n : ℕ} {met all : Bounds k} {root : ℕ} {start : ℕ → Exact k} {first : ExactBound k → Type 0}
    (posed : Posed k n met all root start) {risen : ℕ → Bool} {time : ℕ → Exact k} {over : ℕ → ExactBound k}
    (s : Spread k n all root first start risen time over) where
  -- no point has more than its trail asks
  trail_asks : (j q : ℕ) → LeadsBack k risen over root j q → Le k (time q) (asked_along k time root (trail k over j q))
  trail_asks zero q l = rw (l, carry_zero laws (time root)) (laws.reflexive (time root))
  trail_asks (suc j) q l =
      let p = (over q).left in
      let row = trail k over j p in
      laws.transitive (time q) (asked k time (over q)) _ (s.raised q l.0).value
      (rw (carry_push laws (time root) row (over q)) (carry_orders laws (time p) (asked_along k time root row) (over q).delay (trail_asks j p l.1)))

  -- The trail to the left point of the root's bound asks no less than the point has, and the bound more of the root than it has.
  closes : Closed k n all root first risen time over → (j : ℕ) → LeadsBack k risen over root j (over root).left
      → ClosedChain k n all root first risen over
  closes c j l =
      let p = (over root).left in
      let row = trail k over j p in
      let loop = trail k over (suc j) root in
      let held = All-push (Contains all) row (over root) (trail_held s j p l) c.raises.held in
      let apart = lefts_apart s j root l in
      let inside : All (λ x. x < n) (lefts loop) =
      All-map (λ x. x < n) (λ b. b.left) loop
      (All-weaker (Contains all) (λ b. b.left < n) (λ b h. (All-contains (Inside k n) all b posed.inside h).left) loop held) in
      let few : length (lefts loop) ≤ n = apart_length n (lefts loop) apart inside in
      let headed = trail_headed s j root c.raises.begins l in
      record {
        steps = j;
        leads = l;
        short = omega (arith, few, length-map loop (λ b. b.left), trail_length over (suc j) root);
        chain = record {
          chain = record {
            start = root;
            closed = subst (Walk root loop) c.right (walk_push row (over root) root p (trail_walk s j p l) refl);
            apart = apart;
            below = round_below laws (time root) (time p) row (over root) (trail_asks j p l) (rw c.right at c.raises.above);
          };
          held = held;
        };
        lead = headed.0;
        rest = headed.1;
        row = headed.2;
        begins = headed.3;
      }

  -- the left point of the root's bound is the root or has risen, so it leads back
  pub closed : Closed k n all root first risen time over → ClosedChain k n all root first risen over
  closed c =
      ⊎_elim (λ e. closes c 0 e) (λ up. let behind = s.behind (over root).left up in closes c behind.0 behind.1) c.raises.begun
