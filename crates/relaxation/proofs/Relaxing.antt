-- A bound that leaves the point being taken up asks a time of its right point: the spreading goes on, or the root would rise. Assumes nothing.
use Rattle.std.proofs.Common.{◌≡◌, ℕ, zero, suc, ◌*◌, ◌<◌, ◌≤◌, Bool, true, eqb, cond, ◌⊎◌, Option, Some, None, List, [], ◌∷◌, ◌++◌, map, slice_index}
use Rattle.std.proofs.Common.{refl, sym, ap, ◌∙◌, subst, inl, inr, ⊎_elim, append-nil, append_assoc, arith}
use Rattle.std.specs.List.{All, Contains}
use Rattle.std.proofs.lemmas.Bool.{cases_eq, cases_lt, cond-false, ne_eqb}
use Rattle.std.proofs.lemmas.List.Elements.{All-head, All-append, All-weaker, All-contains_itself}
use Rattle.std.proofs.lemmas.List.Elements.{Contains-append_left, Contains-append_cases, Contains-push}
use Rattle.std.proofs.lemmas.Option.{none-some}
use Rattle.bounds.specs.declared.row.Row.{Row}
use Rattle.delays.specs.Kind.{Kind, Exact, Lawful}
use Rattle.network.specs.Bounds.{ExactBound, Bounds}
use Rattle.network.specs.Assignments.{Le, Lt}
use Rattle.network.proofs.Orders.{le_lt_trans, lt_le_trans}
use Rattle.network.proofs.Counting.{apart_head}
use Rattle.relaxation.specs.declared.star.Star.{Star}
use Rattle.relaxation.specs.Line.{Joined}
use Rattle.relaxation.specs.Rows.{exact_of}
use Rattle.relaxation.specs.Spreads.{asked, LeadsBack, Spread, Raises}
use Rattle.relaxation.specs.Stars.{numbered_at, over_of, Leads}
use Rattle.relaxation.specs.Workings.{all, posted_rows, MayBeTaken, Stopped, Going, Rests, Rises, Stops}
use Rattle.relaxation.proofs.Trails.{not_root}
use Rattle.relaxation.proofs.Rising.{also, also_itself, also_old, not_itself, not_lead, grows, rise, asks_near}
use Rattle.relaxation.proofs.Members.{only_one}

-- The bound over which a point rose is told by the point's number, which is the one that was noted where no posted bound raises the point.
module _ (k : Kind) (rows : List Row) (over over' : List ℕ) (q : ℕ) where
  pub over_kept : (posted : Option Row) → slice_index over' q ≡ slice_index over q
      → over_of k rows (posted_rows posted) over' q ≡ over_of k rows (posted_rows posted) over q
  over_kept None e = ap (λ m. numbered_at k rows m q) e
  over_kept (Some c) e = ap (λ m. cond (eqb q c.right) (exact_of k c) (numbered_at k rows m q)) e

  pub over_named : (posted : Option Row) (number : ℕ) → slice_index over' q ≡ number → ((c : Row) → posted ≡ Some c → q ≡ c.right → ⊥)
      → over_of k rows (posted_rows posted) over' q ≡ numbered_at k rows number q
  over_named None number e away = ap (λ m. numbered_at k rows m q) e
  over_named (Some c) number e away =
      cond-false (eqb q c.right) (exact_of k c) (numbered_at k rows (slice_index over' q) q) (ne_eqb q c.right (away c refl))
      ∙ ap (λ m. numbered_at k rows m q) e

-- a spreading stays one where another bound is noted for the root
module _ {k : Kind} {n : ℕ} {edges : Bounds k} {root : ℕ} {first : ExactBound k → Type 0} {start : ℕ → Exact k} {risen : ℕ → Bool}
    {time : ℕ → Exact k} {over over' : ℕ → ExactBound k} (s : Spread k n edges root first start risen time over)
    (same : (q : ℕ) → (q ≡ root → ⊥) → over' q ≡ over q) where
  leads_noted : (j q : ℕ) → LeadsBack k risen over root j q → LeadsBack k risen over' root j q
  leads_noted zero q l = l
  leads_noted (suc j) q l = (l.0, rw (same q (not_root s q l.0)) (leads_noted j (over q).left l.1))

  pub spread_noted : Spread k n edges root first start risen time over'
  spread_noted = record {
    root_still = s.root_still;
    still = s.still;
    grown = s.grown;
    inside = s.inside;
    came = s.came;
    raised = λ q e. let r = s.raised q e in let same_q = same q (not_root s q e) in record {
      held = rw same_q r.held;
      right = rw same_q r.right;
      value = rw same_q r.value;
      begins = rw same_q r.begins;
    };
    behind = λ q e. let h = s.behind q e in (h.0, leads_noted h.0 q h.1);
  }

-- what the line has more when a point below the limit came to it
record Came (line line' : List ℕ) (right limit : ℕ) : Type 0 where
  more : List ℕ
  joined : line' ≡ line ++ more
  only : (q : ℕ) → Contains more q → (q ≡ right) × (right < limit)
  waits : right < limit → Contains line' right

came : (line line' : List ℕ) (right limit : ℕ) → (right < limit → Joined line right line') → (limit ≤ right → line' ≡ line) → Came line line' right limit
came line line' right limit low high = ⊎_elim (λ h. ⊎_elim (waited h) (joins h) (low h)) past (cases_lt right limit)
  where
    waited : right < limit → Contains line right × (line' ≡ line) → Came line line' right limit
    waited h j = record {
      more = [];
      joined = rw j.1 (sym (append-nil line));
      only = λ q has. absurd (omega (arith, has.1));
      waits = λ l. rw j.1 j.0;
    }

    joins : right < limit → (Contains line right → ⊥) × (line' ≡ line ++ right ∷ []) → Came line line' right limit
    joins h j = record {
      more = right ∷ [];
      joined = j.1;
      only = λ q has. (sym (only_one right q has), h);
      waits = λ l. rw j.1 (Contains-push line right);
    }

    past : limit ≤ right → Came line line' right limit
    past h = record {
      more = [];
      joined = rw (high h) (sym (append-nil line));
      only = λ q has. absurd (omega (arith, has.1));
      waits = λ l. absurd (omega arith);
    }

-- A bound that leaves the point u was heeded: the point is still being taken up, it has its time, no time fell, and the bound is met.
pub record Heeded (k : Kind) (n : ℕ) (rows : List Row) (star : Star) (u : ℕ) (b : ExactBound k) (before time time' : ℕ → Exact k)
    (over' line_before line' : List ℕ) : Type 0 where
  pub going : Going k n rows star u before time' over' line_before line'
  pub still : time' u ≡ time u
  pub grown : (q : ℕ) → Le k (time q) (time' q)
  pub met : Le k (asked k time' b) (time' b.right)

-- The point u is being taken up, and the bound b leaves it.
module _ {k : Kind} (laws : Lawful k) {n : ℕ} {rows : List Row} {star : Star} {u : ℕ} {before time : ℕ → Exact k} {over line_before line : List ℕ}
    (g : Going k n rows star u before time over line_before line) (b : ExactBound k) (held : Contains (all k n rows star) b) (left : b.left ≡ u) where
  abbrev Edges : Bounds k
  Edges = all k n rows star

  abbrev First : ExactBound k → Type 0
  First = Leads k (posted_rows star.posted)

  taken : MayBeTaken k n rows star g.working.risen u
  taken = All-head (MayBeTaken k n rows star g.working.risen) u line g.working.begun

  -- the bound asks no time past the reach
  pub bound_near : k.size (asked k time b) ≤ 256 * k.greatest
  bound_near = asks_near laws g.working.posed g.working.spread b held

  module _ (above : Lt k (time b.right) (asked k time b)) where
    -- it raises its right point
    raises : Raises k n Edges star.root First g.working.risen time b
    raises = record {
      held = held;
      begun = ⊎_elim (λ h. inl (left ∙ h.0)) (λ e. inr (rw left e)) taken.begun;
      begins = λ at. ⊎_elim (λ h. subst (λ p. Leads k (posted_rows p) b) (sym h.1) tt)
          (λ e. absurd (not_root g.working.spread u e (sym left ∙ at))) taken.begun;
      above = above;
    }

    -- where a bound is posted, its right point is another
    not_posted : (c : Row) → star.posted ≡ Some c → b.right ≡ c.right → ⊥
    not_posted c posted e =
        ⊎_elim (λ h. none-some c (sym h.1 ∙ posted)) (λ up. ⊎_elim (at_root up) (off_root up) (cases_eq b.right star.root)) taken.begun
      where
        lead_right : (lead : ExactBound k) → First lead → c.right ≡ lead.right
        lead_right lead h =
            let lead_is : Leads k (posted_rows (Some c)) lead = subst (λ p. Leads k (posted_rows p) lead) posted h in
            sym (ap (λ (d : ExactBound k). d.right) lead_is)

        at_root : g.working.risen u ≡ true → b.right ≡ star.root → ⊥
        at_root up at =
            let way = g.working.spread.came u up in
            let rights = map (λ (d : ExactBound k). d.right) way.rest in
            All-head (λ y. ¬ (star.root ≡ y)) way.lead.right rights (apart_head star.root (way.lead.right ∷ rights) way.path.apart)
            (sym at ∙ (e ∙ lead_right way.lead way.begins))

        off_root : g.working.risen u ≡ true → (b.right ≡ star.root → ⊥) → ⊥
        off_root up off =
            let found = not_lead laws g.working.posed g.working.spread b raises off (λ r. not_root g.working.spread u up (sym left ∙ r)) in
            found.2 (e ∙ lead_right found.0 found.1)

    -- where the bound's number is noted for its right point, the bound is the one over which that point rose last
    noted : (number : ℕ) → numbered_at k rows number b.right ≡ b → (over' : List ℕ) → slice_index over' b.right ≡ number
        → over_of k rows (posted_rows star.posted) over' b.right ≡ b
    noted number named over' e = over_named k rows over over' b.right star.posted number e not_posted ∙ named

  abbrev After : (ℕ → Exact k) → List ℕ → List ℕ → Type 0
  After time' over' line' = Heeded k n rows star u b before time time' over' line_before line'

  module _ {number : ℕ} (named : numbered_at k rows number b.right ≡ b) {time' : ℕ → Exact k} {over' line' : List ℕ} where
    -- it asked no more than its right point had
    pub rests : Rests k star b.right (asked k time b) number time time' over over' line line' → After time' over' line'
    rests h =
        rw (h.times, h.overs, h.lines) (record { going = g; still = refl; grown = λ q. laws.reflexive (time q); met = h.enough })

    -- it asked more of the root
    pub stops : Stops k star b.right (asked k time b) number time time' over over' line line' → Stopped k n rows star time' over'
    stops h =
        let over_root : over_of k rows (posted_rows star.posted) over' star.root ≡ b = rw (← h.root) (noted h.above number named over' h.overs.here) in
        rw h.times (record {
          met = g.working.met;
          start = g.working.start;
          risen = g.working.risen;
          leaves = g.working.leaves;
          posed = g.working.posed;
          spread = spread_noted g.working.spread
              (λ q ne. over_kept k rows over over' q star.posted (h.overs.elsewhere q (λ e. ne (e ∙ h.root))));
          closed = record { raises = rw over_root (raises h.above); right = rw over_root h.root };
        })

    -- it raised its right point
    pub rises : Rises k star b.right (asked k time b) number time time' over over' line line' → After time' over' line'
    rises h = record { going = going; still = still; grown = grown; met = met }
      where
        up : Raises k n Edges star.root First g.working.risen time b
        up = raises h.above

        grown : (q : ℕ) → Le k (time q) (time' q)
        grown = grows laws g.working.posed g.working.spread b up h.off h.times.here h.times.elsewhere

        still : time' u ≡ time u
        still = h.times.elsewhere u (λ e. not_itself laws g.working.posed g.working.spread b up h.off (sym e ∙ sym left))

        met : Le k (asked k time' b) (time' b.right)
        met = rw (h.times.here, left, still) (rw (← left) (laws.reflexive (asked k time b)))

        has : Came line line' b.right star.limit
        has = came line line' b.right star.limit h.low h.high

        joined : line' ≡ line_before ++ (g.more ++ has.more)
        joined = has.joined ∙ (ap (λ l. l ++ has.more) g.joined ∙ append_assoc line_before g.more has.more)

        waits : (q : ℕ) → q < star.limit → (time' q ≡ before q) ⊎ Contains (line_before ++ (g.more ++ has.more)) q
        waits q low = ⊎_elim here elsewhere (cases_eq q b.right)
          where
            here : q ≡ b.right → (time' q ≡ before q) ⊎ Contains (line_before ++ (g.more ++ has.more)) q
            here e = inr (rw (← joined, e) (has.waits (rw (← e) low)))

            elsewhere : (q ≡ b.right → ⊥) → (time' q ≡ before q) ⊎ Contains (line_before ++ (g.more ++ has.more)) q
            elsewhere ne =
                ⊎_elim (λ e. inl (h.times.elsewhere q ne ∙ e))
                (λ w. inr (rw (append_assoc line_before g.more has.more) at (Contains-append_left (line_before ++ g.more) has.more q w)))
                (g.made.waits q low)

        new : (q : ℕ) → Contains (g.more ++ has.more) q → Lt k (before q) (time' q)
        new q w = ⊎_elim old risen_now (Contains-append_cases g.more has.more q w)
          where
            old : Contains g.more q → Lt k (before q) (time' q)
            old w = lt_le_trans laws (before q) (time q) (time' q) (g.made.new q w) (grown q)

            risen_now : Contains has.more q → Lt k (before q) (time' q)
            risen_now w = rw (has.only q w).0
                (rw h.times.here (le_lt_trans laws (before b.right) (time b.right) (asked k time b) (g.made.grown b.right) h.above))

        still_begun : All (MayBeTaken k n rows star (also g.working.risen b.right)) (u ∷ line)
        still_begun =
            All-weaker (MayBeTaken k n rows star g.working.risen) (MayBeTaken k n rows star (also g.working.risen b.right))
            (λ q m. record { low = m.low; begun = ⊎_elim (λ r. inl r) (λ e. inr (also_old g.working.risen b.right q e)) m.begun })
            (u ∷ line) g.working.begun

        begun : All (MayBeTaken k n rows star (also g.working.risen b.right)) (u ∷ line')
        begun = rw has.joined
            (All-append (MayBeTaken k n rows star (also g.working.risen b.right)) (u ∷ line) has.more still_begun
            (All-weaker (Contains has.more) (MayBeTaken k n rows star (also g.working.risen b.right)) (λ q w. let o = has.only q w in
            record { low = rw o.0 o.1; begun = inr (rw o.0 (also_itself g.working.risen b.right)) }) has.more (All-contains_itself has.more)))

        going : Going k n rows star u before time' over' line_before line'
        going = record {
          more = g.more ++ has.more;
          joined = joined;
          made = record {
            itself = still ∙ g.made.itself;
            grown = λ q. laws.transitive (before q) (time q) (time' q) (g.made.grown q) (grown q);
            waits = waits;
            new = new;
          };
          working = record {
            met = g.working.met;
            start = g.working.start;
            risen = also g.working.risen b.right;
            limit = g.working.limit;
            leaves = g.working.leaves;
            posed = g.working.posed;
            spread = rise laws g.working.posed g.working.spread b up h.off h.times.here h.times.elsewhere
                (noted h.above number named over' h.overs.here)
                (λ q ne. over_kept k rows over over' q star.posted (h.overs.elsewhere q ne));
            begun = begun;
          };
        }
