-- Passes over the points that wait: each makes the times heed walks of one bound more. Assumes nothing.
use Rattle.std.proofs.Common.{◌≡◌, ℕ, ◌+◌, ◌<◌, ◌≤◌, List, [], ◌∷◌, ◌++◌, length, Bool, true, sym, refl, ap, subst, ⊎_elim, append-nil, append_assoc, arith}
use Rattle.std.specs.List.{All, Contains}
use Rattle.std.proofs.lemmas.Bool.{cases_eq}
use Rattle.std.proofs.lemmas.List.{length_push}
use Rattle.std.proofs.lemmas.List.Elements.{All-head, All-nil}
use Rattle.std.proofs.lemmas.List.Elements.{Contains-append_left, Contains-append_cases}
use Rattle.delays.specs.Kind.{Kind, Exact, Lawful}
use Rattle.network.specs.Bounds.{ExactBound, Bounds}
use Rattle.network.specs.Assignments.{Le, Lt}
use Rattle.network.specs.Walks.{sum_of, Walk}
use Rattle.network.specs.Rounds.{carry}
use Rattle.network.proofs.Orders.{not_both, le_lt_trans, lt_le_trans}
use Rattle.network.proofs.Shortening.{all_front, all_back}
use Rattle.network.proofs.Nearness.{path_short}
use Rattle.relaxation.specs.Spreads.{Posed, asked, asked_along, Spread, Begun, Asked, Quiet, Passed, Passing, TakenUp}
use Rattle.relaxation.proofs.Members.{only_one}
use Rattle.relaxation.proofs.Carries.{carry_orders, along_push, along_none}

-- a walk that is not empty, without its last bound
pub record Last {k : Kind} (p : ℕ) (row : Bounds k) (q : ℕ) : Type 0 where
  pub front : Bounds k
  pub bound : ExactBound k
  pub split : row ≡ front ++ bound ∷ []
  pub walk : Walk p front bound.left
  pub right : bound.right ≡ q

pub last_of : {k : Kind} (b : ExactBound k) (bs : Bounds k) (p q : ℕ) → Walk p (b ∷ bs) q → Last p (b ∷ bs) q
last_of b [] p q w = record { front = []; bound = b; split = refl; walk = sym w.0; right = w.1 }
last_of {k} b (c ∷ cs) p q w =
    let l = last_of c cs b.right q w.1 in
    record { front = b ∷ l.front; bound = l.bound; split = ap {B = Bounds k} (λ l. b ∷ l) l.split; walk = (w.0, l.walk); right = l.right }

-- what is not u and is not in the rest is not in both
not_in_both : (u q : ℕ) (rest : List ℕ) → (q ≡ u → ⊥) → (Contains rest q → ⊥) → Contains (u ∷ rest) q → ⊥
not_in_both u q rest other out has = ⊎_elim (λ h. other (sym (only_one u q h))) out (Contains-append_cases (u ∷ []) rest q has)

module _ {k : Kind} (laws : Lawful k) {n : ℕ} {all : Bounds k} {root : ℕ} {first : ExactBound k → Type 0} where
  pub passed_none : (time : ℕ → Exact k) (line : List ℕ) → Quiet k n all root first time line → Passed k n all root first 0 time line
  passed_none time line quiet = record { quiet = quiet; asked = none; fresh = λ q has row w held short. absurd (omega (arith, short)) }
    where
      none : Asked k n all root first time 0
      none [] q w held short = rw (along_none laws time root q w) (laws.reflexive (time q))
      none (b ∷ bs) q w held short = absurd (omega (arith, short))

  pub pass_begins : {m : ℕ} {time : ℕ → Exact k} {line : List ℕ} → Passed k n all root first m time line → Passing k n all root first m time time line []
  pass_begins {time = time} {line = line} p = record {
    quiet = subst (Quiet k n all root first time) (sym (append-nil line)) p.quiet;
    asked_before = p.asked;
    taken = p.quiet;
    grown = λ q. laws.reflexive (time q);
    new = λ q has. absurd (omega (arith, has.1));
  }

  module _ {m limit u : ℕ} {begin time after : ℕ → Exact k} {rest later more : List ℕ} (p : Passing k n all root first m begin time (u ∷ rest) later)
      (t : TakenUp k n all root first limit u time after (rest ++ later) more) where
    -- The bounds of u are met now. Another point that does not wait afterwards has its old time, and did not wait before.
    goes_quiet : ((b : ExactBound k) → Contains all b → b.left < limit) → Quiet k n all root first after ((rest ++ later) ++ more)
    goes_quiet below b has out = ⊎_elim (t.met b has) other (cases_eq b.left u)
      where
        other : (b.left ≡ u → ⊥) → Le k (asked k after b) (after b.right)
        other ne =
            let same : after b.left ≡ time b.left = ⊎_elim (λ e. e) (λ waits. absurd (out waits)) (t.made.waits b.left (below b has)) in
            let before = p.quiet b has (not_in_both u b.left (rest ++ later) ne (λ h. out (Contains-append_left (rest ++ later) more b.left h))) in
            rw same (laws.transitive _ _ _ before (t.made.grown b.right))

    goes_taken : (b : ExactBound k) → Contains all b → (Contains rest b.left → ⊥) → Le k (asked k begin b) (after b.right)
    goes_taken b has out = ⊎_elim itself other (cases_eq b.left u)
      where
        itself : b.left ≡ u → Le k (asked k begin b) (after b.right)
        itself e =
            let grown = laws.transitive _ _ _ (p.grown b.left) (t.made.grown b.left) in
            laws.transitive _ _ _ (carry_orders laws _ _ b.delay grown) (t.met b has e)

        other : (b.left ≡ u → ⊥) → Le k (asked k begin b) (after b.right)
        other ne = laws.transitive _ _ _ (p.taken b has (not_in_both u b.left rest ne out)) (t.made.grown b.right)

    goes_new : (q : ℕ) → Contains (later ++ more) q → Lt k (begin q) (after q)
    goes_new q has = ⊎_elim (λ h. lt_le_trans laws _ _ _ (p.new q h) (t.made.grown q)) (λ h. le_lt_trans laws _ _ _ (p.grown q) (t.made.new q h))
        (Contains-append_cases later more q has)

    -- one point of the pass is taken up
    pub pass_goes : ((b : ExactBound k) → Contains all b → b.left < limit) → Passing k n all root first m begin after rest (later ++ more)
    pass_goes below = record {
      quiet = subst (Quiet k n all root first after) (append_assoc rest later more) (goes_quiet below);
      asked_before = p.asked_before;
      taken = goes_taken;
      grown = λ q. laws.transitive _ _ _ (p.grown q) (t.made.grown q);
      new = goes_new;
    }

  module _ {m : ℕ} {begin time : ℕ → Exact k} {later : List ℕ} (same : time root ≡ begin root) (p : Passing k n all root first m begin time [] later) where
    -- the root has its old time, and so a walk asks what it asked
    as_before : (row : Bounds k) → asked_along k time root row ≡ asked_along k begin root row
    as_before row = ap (λ x. carry k x (sum_of k row)) same

    -- A walk to the left point of the last bound asked no more than the point had, and the last bound was taken up in this pass.
    last_heeds : (row : Bounds k) (q : ℕ) → Last root row q → All (Contains all) row → length row ≤ m + 1 → Le k (asked_along k begin root row) (time q)
    last_heeds row q l held short = rw (l.split, along_push laws begin root l.front l.bound) (laws.transitive _ _ _ far near)
      where
        parts : All (Contains all) (l.front ++ l.bound ∷ [])
        parts = subst (All (Contains all)) l.split held

        few : length l.front ≤ m
        few = omega (arith, short, ap length l.split, length_push l.front l.bound)

        far : Le k (carry k (asked_along k begin root l.front) l.bound.delay) (asked k begin l.bound)
        far = carry_orders laws _ _ l.bound.delay (p.asked_before l.front l.bound.left l.walk (all_front (Contains all) l.front (l.bound ∷ []) parts) few)

        near : Le k (asked k begin l.bound) (time q)
        near =
            let has = All-head (Contains all) l.bound [] (all_back (Contains all) l.front (l.bound ∷ []) parts) in
            subst (λ r. Le k (asked k begin l.bound) (time r)) l.right (p.taken l.bound has (λ none. absurd (omega (arith, none.1))))

    heeds : Asked k n all root first time (m + 1)
    heeds [] q w held short = rw (along_none laws time root q w) (laws.reflexive (time q))
    heeds (c ∷ cs) q w held short = rw (as_before (c ∷ cs)) (last_heeds (c ∷ cs) q (last_of c cs root q w) held short)

    pub pass_ends : Passed k n all root first (m + 1) time later
    pass_ends = record {
      quiet = p.quiet;
      asked = heeds;
      fresh = λ q has row w held short. rw (as_before row) (le_lt_trans laws _ _ _ (p.asked_before row q w held (omega (arith, short))) (p.new q has));
    }

  module _ {met : Bounds k} {start : ℕ → Exact k} (posed : Posed k n met all root start) {risen : ℕ → Bool} {time : ℕ → Exact k} {over : ℕ → ExactBound k}
      (s : Spread k n all root first start risen time over) where
    -- A point that waits has its time over a path, which has fewer than n bounds: after n passes the time is above what that path asks.
    pub none_waits : {m : ℕ} {line : List ℕ} → ((q : ℕ) → Contains line q → Begun k n all root first risen q) → Passed k n all root first m time line
        → n ≤ m → (q : ℕ) → Contains line q → ⊥
    none_waits begun p enough q has = ⊎_elim itself came (begun q has)
      where
        -- what a walk of fewer than n bounds asks is below the time of q
        above : (row : Bounds k) → Walk root row q → All (Contains all) row → length row < n → Lt k (asked_along k time root row) (time q)
        above row w held few = p.fresh q has row w held (omega (arith, few, enough))

        itself : q ≡ root → ⊥
        itself e =
            let low = above [] (sym e) (All-nil (Contains all)) (omega (arith, posed.some)) in
            not_both k _ _ (rw (along_none laws time root q (sym e)) (laws.reflexive (time q))) low

        came : risen q ≡ true → ⊥
        came e =
            let c = s.came q e in
            let row = c.lead ∷ c.rest in
            let low = above row c.path.walk c.path.held (path_short laws n all posed.inside root q posed.some row c.path) in
            not_both k _ _ (rw (← c.value) (laws.reflexive (time q))) low

    pub none_left : {m : ℕ} {line : List ℕ} → ((q : ℕ) → Contains line q → Begun k n all root first risen q) → Passed k n all root first m time line
        → n ≤ m → line ≡ []
    none_left {line = []} begun p enough = refl
    none_left {line = q ∷ qs} begun p enough = absurd (none_waits begun p enough q (0, omega arith, refl))
