-- What a call makes of the plan. Assumes nothing.
use Rattle.std.proofs.Common.{◌≡◌, ℕ, ◌+◌, ◌<◌, ◌≤◌, true, false, ◌⊎◌, List, [], ◌∷◌, ◌++◌, refl, inl, inr, arith}
use mathlib.Core.Path.{subst⁻¹}
use Rattle.std.proofs.lemmas.Bool.{cases_eq, cases_lt, true_from_ne_false, false_from_ne_true}
use Rattle.bounds.specs.declared.row.Row.{Row}
use Rattle.delays.specs.Kind.{Kind, Exact}
use Rattle.plans.specs.declared.fault.PlanFault.{PlanFault}
use Rattle.plans.specs.Rows.{Times}
use Rattle.plans.specs.Answers.{Call, settle, post, read, mark, keep, back, Answer, settled, covered, moved, time, slip, done, refused}
use Rattle.plans.specs.States.{State, rows, depth, settling, posting, marking, closing, cutting, noted}
use Rattle.plans.specs.Steps.{Ending, Becomes, Unless, Check, EachBound, Conflicts, Present, Step}
use Rattle.plans.specs.Runs.{accepted}

-- an answer that leaves the plan as it is: it accepts no bound, is no slip, and is not that of an accepted keep or back
pub record Unchanging {k : Kind} (c : Call) (a : Answer k) : Type 0 where
  pub accepts_none : accepted c a ≡ []
  pub no_slip : (number d : ℕ) → a ≡ slip number d → ⊥
  pub not_done : a ≡ done → ⊥

-- how a call with its answer changes a plan
pub data Change (k : Kind) (s : State) : Call → Answer k → State → Type 0 where
  same : {c : Call} {a : Answer k} → Unchanging c a → Change k s c a s
  settles : {length count : ℕ} (x : ℕ → Exact k) → Times k s.points (rows s) x → s.settled ≡ false
      → Change k s (settle length) (settled count) (settling s)
  posts : {length count : ℕ} {b : Row} (x : ℕ → Exact k) → Times k s.points (rows s ++ b ∷ []) x → s.settled ≡ true → (s.book.free ≡ 0 → ⊥)
      → Change k s (post length b) (moved count) (posting b s)
  marks : s.settled ≡ true → Change k s mark (slip s.number (depth s + 1)) (marking s)
  keeps : {number d : ℕ} → number ≡ s.number → 0 < d → d ≤ depth s → s.settled ≡ true → Change k s (keep number d) done (closing d s)
  backs : {number d : ℕ} → number ≡ s.number → 0 < d → d ≤ depth s → s.settled ≡ true
      → Change k s (back number d) done (cutting (noted s d) (closing d s))

-- a refusal leaves the plan as it is
refused_unchanging : {k : Kind} (c : Call) (fault : PlanFault) → Unchanging {k = k} c (refused fault)
refused_unchanging {k} c fault = record { accepts_none = none c; no_slip = λ number d e. cc; not_done = λ e. cc }
  where
    none : (c : Call) → accepted {k = k} c (refused fault) ≡ []
    none (post length b) = refl
    none c = refl

-- a slip that is not refused is present
present : (s : State) (number d : ℕ) → ((Present s number d → ⊥) → ⊥) → Present s number d
present s number d h = go (cases_eq number s.number) (cases_eq d (depth s)) (cases_lt 0 d)
  where
    go : (number ≡ s.number) ⊎ (number ≡ s.number → ⊥) → (d ≡ depth s) ⊎ (d ≡ depth s → ⊥) → (0 < d) ⊎ (d ≤ 0) → Present s number d
    go (inl a) (inl b) (inl c) = record { number_is = a; depth_is = b; is_open = c }
    go (inr a) b c = absurd (h (λ p. a p.number_is))
    go (inl a) (inr b) c = absurd (h (λ p. b p.depth_is))
    go (inl a) (inl b) (inr c) = absurd (h (λ p. let q : 0 < d = p.is_open in omega arith))

-- an ending comes to a change that c makes
abbrev Makes : (k : Kind) → State → Call → Ending k → Type 0
Makes k s c P = (a : Answer k) (t : State) → P a t → Change k s c a t

module _ {k : Kind} {s : State} where
  -- the answer and the plan that are told
  becomes : (c : Call) {x a : Answer k} {v t : State} → Becomes x v a t → Change k s c x v → Change k s c a t
  becomes c {x} {a} {v} {t} p h = subst⁻¹ (λ (y : Answer k). Change k s c y t) p.0 (subst⁻¹ (λ (z : State). Change k s c x z) p.1 h)

  -- a check with such an answer changes nothing
  by_unchanging : {c : Call} {bad : Type 0} {x : Answer k} {P : Ending k} → Unchanging c x → ((bad → ⊥) → Makes k s c P)
      → Makes k s c (Unless s bad x P)
  by_unchanging {c} q f a t (inl p) = becomes c p.1 (same q)
  by_unchanging q f a t (inr p) = f p.0 a t p.1

  by_check : {c : Call} {bad : Type 0} {x : PlanFault} {P : Ending k} → ((bad → ⊥) → Makes k s c P) → Makes k s c (Check s bad x P)
  by_check {c} {x = x} = by_unchanging (refused_unchanging c x)

  by_bounds : {c : Call} (i : ℕ) (bounds : List Row) {P : Ending k} → Makes k s c P → Makes k s c (EachBound k s i bounds P)
  by_bounds i [] f = f
  by_bounds i (b ∷ bounds) f = by_check (λ _. by_check (λ _. by_bounds (i + 1) bounds f))

  by_judge : {c : Call} (bounds : List Row) (next : (ℕ → Exact k) → Ending k)
      → ((x : ℕ → Exact k) → Times k s.points bounds x → Makes k s c (next x)) → Makes k s c (Conflicts k s bounds next)
  by_judge {c} bounds next f a t (inl p) = becomes c p.2 (same (refused_unchanging c _))
  by_judge bounds next f a t (inr p) = f p.0 p.1 a t p.2

  -- each call with its answer makes one of the changes
  pub change : (c : Call) → Makes k s c (Step k s c)
  change (settle length) =
      by_check (λ off. by_check (λ _. by_check (λ _. by_bounds 0 (rows s) (by_judge (rows s) _ (λ x e a t p.
      becomes _ p (settles x e (false_from_ne_true s.settled off)))))))
  change (post length b) =
      by_check (λ on. by_check (λ _. by_check (λ _. by_check (λ _. by_check (λ _. by_unchanging told (λ _. by_judge (rows s ++ b ∷ []) _ (λ x e.
      by_check (λ some a t p. becomes _ p.2 (posts x e (true_from_ne_false s.settled on) some)))))))))
    where
      told : Unchanging {k = k} (post length b) covered
      told = record { accepts_none = refl; no_slip = λ number d e. cc; not_done = λ e. cc }
  change (read p) = by_check (λ on. by_check (λ _ a t q. becomes _ q.2 (same told)))
    where
      told : {x : Exact k} → Unchanging {k = k} (read p) (time x)
      told = record { accepts_none = refl; no_slip = λ number d e. cc; not_done = λ e. cc }
  change mark = by_check (λ on. by_check (λ _ a t p. becomes _ p (marks (true_from_ne_false s.settled on))))
  change (keep number d) = by_check (λ on. by_check (λ h a t p.
      let o = present s number d h in let e : d ≡ depth s = o.depth_is in
      becomes _ p (keeps o.number_is o.is_open (omega arith) (true_from_ne_false s.settled on))))
  change (back number d) = by_check (λ on. by_check (λ h a t p.
      let o = present s number d h in let e : d ≡ depth s = o.depth_is in
      becomes _ p (backs o.number_is o.is_open (omega arith) (true_from_ne_false s.settled on))))

-- what an accepted mark makes of the plan
pub record Opens (s : State) (number d : ℕ) (t : State) : Type 0 where
  pub number_is : number ≡ s.number
  pub depth_is : d ≡ depth s + 1
  pub settled : s.settled ≡ true
  pub after : t ≡ marking s

-- and what an accepted back
pub record Shuts (s : State) (number d : ℕ) (t : State) : Type 0 where
  pub number_is : number ≡ s.number
  pub is_open : 0 < d
  pub open_there : d ≤ depth s
  pub after : t ≡ cutting (noted s d) (closing d s)

module _ {k : Kind} where
  pub opens : {s : State} {number d : ℕ} {t : State} → Change k s mark (slip number d) t → Opens s number d t
  opens (same q) = absurd (q.no_slip _ _ refl)
  opens (marks f) = record { number_is = refl; depth_is = refl; settled = f; after = refl }

  pub shuts : {s : State} {number d : ℕ} {t : State} → Change k s (back number d) done t → Shuts s number d t
  shuts (same q) = absurd (q.not_done refl)
  shuts (backs e l m f) = record { number_is = e; is_open = l; open_there = m; after = refl }
