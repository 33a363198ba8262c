-- A point rises: what a spreading is at first, and what it stays. Assumes nothing.
use Rattle.std.proofs.Common.{◌≡◌, ℕ, zero, suc, ◌*◌, ◌<◌, ◌≤◌, Bool, true, false, eqb, ◌⊎◌, List, [], ◌∷◌, ◌++◌, map, length}
use Rattle.std.proofs.Common.{refl, sym, ap, ◌∙◌, subst, inl, inr, ⊎_elim, append-nil, append_assoc, mul-le-mul_right, arith}
use Rattle.std.specs.Prelude.{◌==◌, if◌then◌else◌}
use Rattle.std.specs.List.{All, Contains}
use Rattle.std.proofs.lemmas.Bool.{both_ways, cases_eq, cases_Bool, cond-true, cond-false, eq-eqb, ne_eqb}
use Rattle.std.proofs.lemmas.List.{map-append, map_push, same_from_push}
use Rattle.std.proofs.lemmas.List.Elements.{All-nil, All-cons, All-head, All-tail, All-push, All-weaker, All-contains, All-contains_itself}
use Rattle.delays.specs.Kind.{Kind, Exact, Lawful}
use Rattle.delays.proofs.TotalLaws.{total_size}
use Rattle.network.specs.Bounds.{ExactBound, Bounds, Inside}
use Rattle.network.specs.Assignments.{Le}
use Rattle.network.specs.Walks.{sum_of, Walk, stops, Path}
use Rattle.network.specs.Rounds.{carry}
use Rattle.network.proofs.Orders.{not_both, lt_le}
use Rattle.network.proofs.Walking.{closed_at_least}
use Rattle.network.proofs.Shortening.{Parted, Off, seek, all_back}
use Rattle.network.proofs.Counting.{apart_head, apart_one, apart_cons, apart_turn}
use Rattle.network.proofs.Nearness.{path_short, earliest_near}
use Rattle.network.proofs.Turning.{walk_push}
use Rattle.relaxation.specs.Spreads.{Posed, asked, asked_along, LeadsBack, Came, Raised, Spread, Raises}
use Rattle.relaxation.proofs.Carrying.{carry_zero, carry_orders, carry_append, carry_front, carry_push, round_below}
use Rattle.relaxation.proofs.Trails.{not_root}

-- the points that have risen, and v
abbrev pub also : (ℕ → Bool) → ℕ → ℕ → Bool
also risen v q = if q == v then true else risen q

module _ (risen : ℕ → Bool) (v : ℕ) where
  pub also_itself : also risen v v ≡ true
  also_itself = cond-true (eqb v v) true (risen v) (eq-eqb v v refl)

  pub also_other : (q : ℕ) → (q ≡ v → ⊥) → also risen v q ≡ risen q
  also_other q ne = cond-false (eqb q v) true (risen q) (ne_eqb q v ne)

  pub also_old : (q : ℕ) → risen q ≡ true → also risen v q ≡ true
  also_old q up = ⊎_elim (λ e. ap (also risen v) e ∙ also_itself) (λ ne. also_other q ne ∙ up) (cases_eq q v)

  pub also_none : (q : ℕ) → also risen v q ≡ false → (q ≡ v → ⊥) × (risen q ≡ false)
  also_none q none =
      let ne : q ≡ v → ⊥ = λ e. both_ways (also risen v q) none (ap (also risen v) e ∙ also_itself) in
      (ne, sym (also_other q ne) ∙ none)

  pub also_cases : (q : ℕ) → also risen v q ≡ true → (q ≡ v) ⊎ (q ≡ v → ⊥) × (risen q ≡ true)
  also_cases q up = ⊎_elim (λ e. inl e) (λ ne. inr (ne, sym (also_other q ne) ∙ up)) (cases_eq q v)

-- a walk from p over a row ends at one point
walk_end : {k : Kind} (row : Bounds k) (p q r : ℕ) → Walk p row q → Walk p row r → q ≡ r
walk_end [] p q r v w = sym v ∙ w
walk_end (b ∷ bs) p q r v w = walk_end bs b.right q r v.1 w.1

-- a list is empty, or has a last element
last_or_none : {X : Type 0} (xs : List X) → (xs ≡ []) ⊎ ((before : List X) × (last : X) × (xs ≡ before ++ last ∷ []))
last_or_none [] = inl refl
last_or_none {X} (x ∷ xs) =
    ⊎_elim (λ e. inr ([], x, ap {B = List X} (λ l. x ∷ l) e)) (λ h. inr (x ∷ h.0, h.1, ap {B = List X} (λ l. x ∷ l) h.2)) (last_or_none xs)

-- the front part of a list with one element more at its end is all of it, or a front part of the list
front_of_push : {X : Type 0} (xs : List X) (y : X) (front back : List X) → xs ++ y ∷ [] ≡ front ++ back
    → (front ≡ xs ++ y ∷ []) ⊎ ((rest : List X) × (xs ≡ front ++ rest))
front_of_push {X} xs y front back e = ⊎_elim whole part (last_or_none back)
  where
    whole : back ≡ [] → (front ≡ xs ++ y ∷ []) ⊎ ((rest : List X) × (xs ≡ front ++ rest))
    whole none = inl (sym (append-nil front) ∙ (ap {B = List X} (λ l. front ++ l) (sym none) ∙ sym e))

    part : (before : List X) × (last : X) × (back ≡ before ++ last ∷ []) → (front ≡ xs ++ y ∷ []) ⊎ ((rest : List X) × (xs ≡ front ++ rest))
    part h =
        let same = e ∙ (ap {B = List X} (λ l. front ++ l) h.2 ∙ sym (append_assoc front h.0 (h.1 ∷ []))) in
        inr (h.0, (same_from_push xs (front ++ h.0) y h.1 same).0)

-- a path from the root gave q its time, as in `Came`, whatever its first bound is
record Way (k : Kind) (all : Bounds k) (root : ℕ) (time : ℕ → Exact k) (q : ℕ) (row : Bounds k) : Type 0 where
  path : Path k all root q row
  value : time q ≡ asked_along k time root row
  upto : (front back : Bounds k) (v : ℕ) → row ≡ front ++ back → Walk root front v → Le k (asked_along k time root front) (time v)

module _ {k : Kind} {n : ℕ} {all : Bounds k} {root : ℕ} {first : ExactBound k → Type 0} {time : ℕ → Exact k} {q : ℕ} where
  way_of : (c : Came k n all root first time q) → Way k all root time q (c.lead ∷ c.rest)
  way_of c = record { path = c.path; value = c.value; upto = c.upto }

  came_by : (row : Bounds k) → (lead : ExactBound k) × (rest : Bounds k) × (row ≡ lead ∷ rest) × first lead → Way k all root time q row
      → Came k n all root first time q
  came_by row h w =
      let way = subst (Way k all root time q) h.2 w in
      record { lead = h.0; rest = h.1; path = way.path; begins = h.3; value = way.value; upto = way.upto }

-- no point has risen
pub begin : {k : Kind} (laws : Lawful k) {n : ℕ} {all : Bounds k} {root : ℕ} {start : ℕ → Exact k} {first : ExactBound k → Type 0}
    (over : ℕ → ExactBound k) → Spread k n all root first start (λ q. false) start over
begin laws {start = start} over = record {
  root_still = refl;
  still = λ q e. refl;
  grown = λ q. laws.reflexive (start q);
  inside = λ q up. absurd (both_ways false refl up);
  came = λ q up. absurd (both_ways false refl up);
  raised = λ q up. absurd (both_ways false refl up);
  behind = λ q up. absurd (both_ways false refl up);
}

module _ {k : Kind} (laws : Lawful k) {n : ℕ} {met all : Bounds k} {root : ℕ} {start : ℕ → Exact k} {first : ExactBound k → Type 0}
    (posed : Posed k n met all root start) {risen : ℕ → Bool} {time : ℕ → Exact k} {over : ℕ → ExactBound k}
    (s : Spread k n all root first start risen time over) where
  -- the empty way of the root
  way_none : Way k all root time root []
  way_none = record {
    path = record { walk = refl; apart = apart_one root; held = All-nil (Contains all) };
    value = sym (carry_zero laws (time root));
    upto = upto;
  }
    where
      upto : (front back : Bounds k) (v : ℕ) → [] ≡ front ++ back → Walk root front v → Le k (asked_along k time root front) (time v)
      upto [] back v e w = rw (carry_zero laws (time root), ← w) (laws.reflexive (time root))
      upto (b ∷ bs) back v e w = absurd (omega (arith, ap length e))

  -- bounds of a walk that does not come to the root leave it nowhere, so the times at first meet them
  within_met : (row : Bounds k) (p q : ℕ) → Walk p row q → (p ≡ root → ⊥) → All (λ y. ¬ (root ≡ y)) (map (λ b. b.right) row)
      → All (Contains all) row → All (Contains met) row
  within_met [] p q w ne away held = All-nil (Contains met)
  within_met (b ∷ bs) p q w ne away held =
      let rights = map (λ (c : ExactBound k). c.right) bs in
      All-cons (Contains met) b bs (posed.others b (All-head (Contains all) b bs held) (λ e. ne (sym w.0 ∙ e)))
      (within_met bs b.right q w.1 (λ e. All-head (λ y. ¬ (root ≡ y)) b.right rights away (sym e))
      (All-tail (λ y. ¬ (root ≡ y)) b.right rights away) (All-tail (Contains all) b bs held))

  module _ (b : ExactBound k) (up : Raises k n all root first risen time b) (off : b.right ≡ root → ⊥) where
    -- No row of bounds that the times at first meet leads from the right point of b to its left one and asks as much of that as it has:
    -- with b it would be a closed row of such bounds with a sum below zero.
    no_loop : (b.left ≡ root → ⊥) → (row : Bounds k) → Walk b.right row b.left → All (Contains met) row
        → Le k (time b.left) (carry k (time b.right) (sum_of k row)) → ⊥
    no_loop inner row w held low =
        let closed : Walk b.right (row ++ b ∷ []) b.right = walk_push row b b.right b.left w refl in
        let free = closed_at_least laws met start posed.solution b.right (row ++ b ∷ []) closed
        (All-push (Contains met) row b held (posed.others b up.held inner)) in
        not_both k k.zero (sum_of k (row ++ b ∷ [])) free (round_below laws (time b.right) (time b.left) row b low up.above)

    pub not_itself : b.right ≡ b.left → ⊥
    not_itself e =
        no_loop (λ r. off (e ∙ r)) [] e (All-nil (Contains met)) (rw (carry_zero laws (time b.right), e) (laws.reflexive (time b.left)))

    -- The path that gave the left point its time does not come to the right one: cut there, its back part would be such a row.
    way_off : (b.left ≡ root → ⊥) → (row : Bounds k) → Way k all root time b.left row → Off b.right root row
    way_off inner row w = ⊎_elim (λ p. absurd (crossed p)) (λ o. o) (seek b.right root b.left row w.path.walk)
      where
        crossed : Parted b.right root b.left row → ⊥
        crossed p =
            let right : ExactBound k → ℕ = λ c. c.right in
            let away : All (λ y. ¬ (root ≡ y)) (map right (p.front ++ p.back)) = rw p.split at (apart_head root (map right row) w.path.apart) in
            let behind = all_back (λ y. ¬ (root ≡ y)) (map right p.front) (map right p.back) (rw (map-append right p.front p.back) at away) in
            let held : All (Contains all) (p.front ++ p.back) = rw p.split at w.path.held in
            let total = w.value ∙ (ap (asked_along k time root) p.split ∙ carry_append laws (time root) p.front p.back) in
            let low = carry_orders laws (asked_along k time root p.front) (time b.right) (sum_of k p.back) (w.upto p.front p.back b.right p.split p.there) in
            no_loop inner p.back p.onward
            (within_met p.back b.right b.left p.onward off behind (all_back (Contains all) p.front p.back held)) (rw total low)

    pub not_lead : (b.left ≡ root → ⊥) → (c : ExactBound k) × first c × (b.right ≡ c.right → ⊥)
    not_lead inner = ⊎_elim (λ e. absurd (inner e)) found up.begun
      where
        found : risen b.left ≡ true → (c : ExactBound k) × first c × (b.right ≡ c.right → ⊥)
        found e =
            let c = s.came b.left e in
            let rights = map (λ (d : ExactBound k). d.right) c.rest in
            let away = way_off inner (c.lead ∷ c.rest) (way_of c) in (
              c.lead,
              c.begins,
              All-head (λ y. ¬ (b.right ≡ y)) c.lead.right rights (All-tail (λ y. ¬ (b.right ≡ y)) root (c.lead.right ∷ rights) away),
            )

    module _ {time' : ℕ → Exact k} (new : time' b.right ≡ asked k time b) (same : (q : ℕ) → (q ≡ b.right → ⊥) → time' q ≡ time q) where
      root_same : time' root ≡ time root
      root_same = same root (λ e. off (sym e))

      -- no time falls
      pub grows : (q : ℕ) → Le k (time q) (time' q)
      grows q = ⊎_elim risen_one (λ ne. rw (same q ne) (laws.reflexive (time q))) (cases_eq q b.right)
        where
          risen_one : q ≡ b.right → Le k (time q) (time' q)
          risen_one e = rw (e, new) (lt_le laws (time b.right) (asked k time b) up.above)

      -- the other points keep their ways, since times only rise
      upto_kept : (row : Bounds k) (q : ℕ) → Way k all root time q row → (front back : Bounds k) (v : ℕ) → row ≡ front ++ back → Walk root front v
          → Le k (asked_along k time' root front) (time' v)
      upto_kept row q w front back v e there = rw root_same (laws.transitive _ (time v) (time' v) (w.upto front back v e there) (grows v))

      way_kept : (q : ℕ) → (q ≡ b.right → ⊥) → (row : Bounds k) → Way k all root time q row → Way k all root time' q row
      way_kept q ne row w = record {
        path = w.path;
        value = rw root_same (same q ne ∙ w.value);
        upto = upto_kept row q w;
      }

      -- the new way of the right point is that of the left point and then b
      way_on : (row : Bounds k) → Way k all root time b.left row → Off b.right root row → Way k all root time' b.right (row ++ b ∷ [])
      way_on row w away = record {
        path = record {
          walk = walk;
          apart = rw (map_push (λ (c : ExactBound k). c.right) row b)
              (apart_turn b.right (stops root row) (apart_cons b.right (stops root row) away w.path.apart));
          held = All-push (Contains all) row b w.path.held up.held;
        };
        value = value;
        upto = λ front back v e there. ⊎_elim (whole front v there) (λ r. upto_kept row b.left w front r.0 v r.1 there) (front_of_push row b front back e);
      }
        where
          walk : Walk root (row ++ b ∷ []) b.right
          walk = walk_push row b root b.left w.path.walk refl

          value : time' b.right ≡ asked_along k time' root (row ++ b ∷ [])
          value = rw root_same (new ∙ (ap (λ x. carry k x b.delay) w.value ∙ sym (carry_push laws (time root) row b)))

          whole : (front : Bounds k) (v : ℕ) → Walk root front v → front ≡ row ++ b ∷ [] → Le k (asked_along k time' root front) (time' v)
          whole front v there e =
              let end : b.right ≡ v = walk_end (row ++ b ∷ []) root b.right v walk (rw e at there) in
              let itself : Le k (asked_along k time' root (row ++ b ∷ [])) (time' b.right) = rw (← value) (laws.reflexive (time' b.right)) in
              rw e (subst (λ q. Le k (asked_along k time' root (row ++ b ∷ [])) (time' q)) end itself)

      came_new : Came k n all root first time' b.right
      came_new = ⊎_elim from_root from_risen up.begun
        where
          from_root : b.left ≡ root → Came k n all root first time' b.right
          from_root e =
              let away = All-cons (λ y. ¬ (b.right ≡ y)) root [] off (All-nil (λ y. ¬ (b.right ≡ y))) in
              came_by (b ∷ []) (b, [], refl, up.begins e) (way_on [] (subst (λ q. Way k all root time q []) (sym e) way_none) away)

          from_risen : risen b.left ≡ true → Came k n all root first time' b.right
          from_risen e =
              let c = s.came b.left e in
              let row = c.lead ∷ c.rest in
              came_by (row ++ b ∷ []) (c.lead, c.rest ++ b ∷ [], refl, c.begins) (way_on row (way_of c) (way_off (not_root s b.left e) row (way_of c)))

      came_kept : (q : ℕ) → (q ≡ b.right → ⊥) → risen q ≡ true → Came k n all root first time' q
      came_kept q ne e =
          let c = s.came q e in
          came_by (c.lead ∷ c.rest) (c.lead, c.rest, refl, c.begins) (way_kept q ne (c.lead ∷ c.rest) (way_of c))

      module _ {over' : ℕ → ExactBound k} (new_over : over' b.right ≡ b) (same_over : (q : ℕ) → (q ≡ b.right → ⊥) → over' q ≡ over q) where
        -- a bound notes that q rose, where it asked no less before
        raised_by : (q : ℕ) (c : ExactBound k) → over' q ≡ c → Contains all c → c.right ≡ q → Le k (time' q) (asked k time c) → (c.left ≡ root → first c)
            → Raised k n all root first over' time' q
        raised_by q c e held right value begins = record {
          held = rw e held;
          right = rw e right;
          value = rw e
              (laws.transitive (time' q) (asked k time c) (asked k time' c) value (carry_orders laws (time c.left) (time' c.left) c.delay (grows c.left)));
          begins = rw e begins;
        }

        raised_new : Raised k n all root first over' time' b.right
        raised_new = raised_by b.right b new_over up.held refl (rw new (laws.reflexive (asked k time b))) up.begins

        raised_kept : (q : ℕ) → (q ≡ b.right → ⊥) → risen q ≡ true → Raised k n all root first over' time' q
        raised_kept q ne e =
            let r = s.raised q e in
            raised_by q (over q) (same_over q ne) r.held r.right (rw (same q ne) r.value) r.begins

        abbrev Leads : ℕ → ℕ → Type 0
        Leads j q = LeadsBack k (also risen b.right) over' root j q

        -- The right point of b is not on the way back from its left one: the bounds from there to the left point would be such a row.
        leads_kept : (b.left ≡ root → ⊥) → (j q : ℕ) (row : Bounds k) → Walk q row b.left → ((q ≡ root → ⊥) → All (Contains met) row)
            → Le k (time b.left) (carry k (time q) (sum_of k row)) → LeadsBack k risen over root j q → Leads j q
        leads_kept inner zero q row w held low l = l
        leads_kept inner (suc j) q row w held low l =
            let r = s.raised q l.0 in
            let p = (over q).left in
            let ours = held (not_root s q l.0) in
            let ne : q ≡ b.right → ⊥ = λ e. no_loop inner row (rw e at w) ours (rw e at low) in
            let further : Walk p (over q ∷ row) b.left = (refl, rw r.right w) in
            let asks : Le k (time b.left) (carry k (time p) (sum_of k (over q ∷ row))) =
            rw (carry_front laws (time p) (over q) row)
            (laws.transitive (time b.left) _ _ low (carry_orders laws (time q) (asked k time (over q)) (sum_of k row) r.value)) in
            let before = leads_kept inner j p (over q ∷ row) further
            (λ away. All-cons (Contains met) (over q) row (posed.others (over q) r.held away) ours) asks l.1 in
            (also_old risen b.right q l.0, rw (same_over q ne) before)

        left_leads : (j : ℕ) × Leads j b.left
        left_leads = ⊎_elim (λ e. (0, e)) found up.begun
          where
            found : risen b.left ≡ true → (j : ℕ) × Leads j b.left
            found e =
                let h = s.behind b.left e in
                let low : Le k (time b.left) (carry k (time b.left) k.zero) = rw (carry_zero laws (time b.left)) (laws.reflexive (time b.left)) in
                (h.0, leads_kept (not_root s b.left e) h.0 b.left [] refl (λ away. All-nil (Contains met)) low h.1)

        right_leads : (j : ℕ) × Leads j b.right
        right_leads = (suc left_leads.0, (also_itself risen b.right, rw new_over left_leads.1))

        -- each point leads back as before, or up to the right point of b and from there over b
        all_lead : (j q : ℕ) → LeadsBack k risen over root j q → (i : ℕ) × Leads i q
        all_lead zero q l = (0, l)
        all_lead (suc j) q l = go (cases_eq q b.right) (all_lead j (over q).left l.1)
          where
            go : (q ≡ b.right) ⊎ (q ≡ b.right → ⊥) → (i : ℕ) × Leads i (over q).left → (i : ℕ) × Leads i q
            go (inl e) h = (right_leads.0, rw e right_leads.1)
            go (inr ne) h = (suc h.0, (also_old risen b.right q l.0, rw (same_over q ne) h.1))

        -- So the spreading goes on when b has raised its right point: that point has the way and the trail of the left point and then b,
        -- and the others keep theirs.
        pub rise : Spread k n all root first start (also risen b.right) time' over'
        rise = record {
          root_still = also_other risen b.right root (λ e. off (sym e)) ∙ s.root_still;
          still = λ q e. let h = also_none risen b.right q e in same q h.0 ∙ s.still q h.1;
          grown = λ q. laws.transitive (start q) (time q) (time' q) (s.grown q) (grows q);
          inside = λ q e. either q (λ p. p < n) e (All-contains (Inside k n) all b posed.inside up.held).right (λ ne old. s.inside q old);
          came = λ q e. either q (Came k n all root first time') e came_new (came_kept q);
          raised = λ q e. either q (Raised k n all root first over' time') e raised_new (raised_kept q);
          behind = λ q e. either q (λ p. (j : ℕ) × Leads j p) e right_leads (λ ne old. let h = s.behind q old in all_lead h.0 q h.1);
        }
          where
            either : (q : ℕ) (P : ℕ → Type 0) → also risen b.right q ≡ true → P b.right → ((q ≡ b.right → ⊥) → risen q ≡ true → P q) → P q
            either q P e here there = ⊎_elim (λ same. subst P (sym same) here) (λ h. there h.0 h.1) (also_cases risen b.right q e)

  -- the times at first are earliest ones
  start_near : (q : ℕ) → q < n → k.size (start q) ≤ n * k.greatest
  start_near q h =
      let fact : (P : ExactBound k → Type 0) → All P all → All P met =
      λ P all_P. All-weaker (Contains met) P (λ b c. All-contains P all b all_P (posed.among b c)) met (All-contains_itself met) in
      let some : 0 < n = omega (arith, posed.some) in
      earliest_near laws n met (fact (Inside k n) posed.inside) (fact (λ b. k.size b.delay ≤ k.greatest) posed.small) some q (start q) (posed.earliest q h)

  -- The root's time is that of an earliest path, and a point that rose has a path of fewer than n bounds more.
  pub near : (q : ℕ) → q < n → k.size (time q) ≤ 255 * k.greatest
  near q h = ⊎_elim risen_near still_near (cases_Bool (risen q))
    where
      few : n * k.greatest ≤ 128 * k.greatest
      few = mul-le-mul_right k.greatest posed.few

      still_near : risen q ≡ false → k.size (time q) ≤ 255 * k.greatest
      still_near e = omega (arith, ap k.size (s.still q e), start_near q h, few)

      risen_near : risen q ≡ true → k.size (time q) ≤ 255 * k.greatest
      risen_near e =
          let c = s.came q e in
          let row = c.lead ∷ c.rest in
          let short : length row < n = path_short laws n all posed.inside root q posed.some row c.path in
          let steps : length row ≤ 127 = omega (arith, posed.few) in
          let each = All-weaker (Contains all) (λ b. k.size b.delay ≤ k.greatest)
          (λ b. All-contains (λ d. k.size d.delay ≤ k.greatest) all b posed.small) row c.path.held in
          let more : k.size (sum_of k row) ≤ 127 * k.greatest =
          omega (arith, total_size laws (λ (b : ExactBound k). b.delay) row each, mul-le-mul_right k.greatest steps) in
          let from : k.size (time root) ≤ 128 * k.greatest = omega (arith, ap k.size (s.still root s.root_still), start_near root posed.some, few) in
          omega (arith, ap k.size c.value, laws.size_sum (time root) (k.opposite (sum_of k row)), laws.size_opposite (sum_of k row), more, from)

  -- a bound asks no more than one greatest more
  pub asks_near : (b : ExactBound k) → Contains all b → k.size (asked k time b) ≤ 256 * k.greatest
  asks_near b held =
      let left = (All-contains (Inside k n) all b posed.inside held).left in
      let small = All-contains (λ d. k.size d.delay ≤ k.greatest) all b posed.small held in
      omega (arith, laws.size_sum (time b.left) (k.opposite b.delay), laws.size_opposite b.delay, near b.left left, small)
