-- The calls of a run determine its answers, chains aside, and the plan. Assumes nothing.
use Rattle.std.proofs.Common.{◌≡◌, ℕ, zero, suc, ◌+◌, ◌<◌, Bool, List, [], ◌∷◌, ◌++◌, map, sym, refl, ap, ◌∙◌, inl, inr, arith}
use mathlib.Core.Path.{subst⁻¹}
use Rattle.bounds.specs.declared.row.Row.{Row}
use Rattle.delays.specs.Kind.{Kind, Exact, Lawful}
use Rattle.network.specs.Chains.{ChainIn}
use Rattle.network.proofs.Theorems.{chain_theory, earliest_theory}
use Rattle.plans.specs.Rows.{force, Times, tally, moved_count}
use Rattle.plans.specs.Answers.{Call, settle, post, read, mark, keep, back, Answer, settled, moved, time, aside}
use Rattle.plans.specs.States.{State, rows}
use Rattle.plans.specs.Steps.{Ending, Becomes, Unless, EachBound, Conflicts, Step}
use Rattle.plans.specs.Runs.{Run, rests, goes, answer_of, RunsAgree}

-- tests that agree below n have the same tally
pub tally_same : (f g : ℕ → Bool) (n : ℕ) → ((p : ℕ) → p < n → f p ≡ g p) → tally f n ≡ tally g n
tally_same f g zero h = refl
tally_same f g (suc n) h =
    let rest : tally f n ≡ tally g n = tally_same f g n (λ p l. h p (omega arith)) in
    let last : f n ≡ g n = h n (omega arith) in
    cc

-- where the times of the n points are the same, so is the count of those that moved
pub moved_same : (k : Kind) (n : ℕ) (x y z w : ℕ → Exact k) → ((p : ℕ) → p < n → x p ≡ z p) → ((p : ℕ) → p < n → y p ≡ w p)
    → moved_count k n x y ≡ moved_count k n z w
moved_same k n x y z w e f = tally_same _ _ n (λ p l. let one : x p ≡ z p = e p l in let two : y p ≡ w p = f p l in cc)

module _ {k : Kind} where
  -- two endings that agree, chains aside
  abbrev Both : Ending k → Ending k → Type 0
  Both P Q = (a b : Answer k) (t u : State) → P a t → Q b u → (aside a ≡ aside b) × (t ≡ u)

  -- one answer and one plan
  both_become : {x y : Answer k} {s v : State} → x ≡ y → s ≡ v → Both (Becomes x s) (Becomes y v)
  both_become e f a b t u p q = (ap aside (p.0 ∙ e ∙ sym q.0), p.1 ∙ f ∙ sym q.1)

  -- a check for a fault, and the one for a cover
  both_check : {s : State} {bad : Type 0} {x : Answer k} {P Q : Ending k} → Both P Q → Both (Unless s bad x P) (Unless s bad x Q)
  both_check h a b t u (inl p) (inl q) = both_become refl refl a b t u p.1 q.1
  both_check h a b t u (inl p) (inr q) = absurd (q.0 p.0)
  both_check h a b t u (inr p) (inl q) = absurd (p.0 q.0)
  both_check h a b t u (inr p) (inr q) = h a b t u p.1 q.1

  -- the checks of the bounds, whatever follows them
  both_bounds : (s : State) (i : ℕ) (bounds : List Row) {P : Ending k} → Both P P → Both (EachBound k s i bounds P) (EachBound k s i bounds P)
  both_bounds s i [] h = h
  both_bounds s i (b ∷ bounds) h = both_check (both_check (both_bounds s (i + 1) bounds h))

module _ {k : Kind} (laws : Lawful k) where
  -- the earliest times of the points are one
  times_one : {n : ℕ} {bounds : List Row} {x y : ℕ → Exact k} → Times k n bounds x → Times k n bounds y → (p : ℕ) → p < n → x p ≡ y p
  times_one {n} {bounds} {x} {y} e f p h = (earliest_theory laws).one (force k n bounds) p (x p) (y p) (e.earliest p h) (f.earliest p h)

  -- no chain where there are earliest times
  chain_or_times : {n : ℕ} {bounds : List Row} {x : ℕ → Exact k} {row : _} → ChainIn k (force k n bounds) row → Times k n bounds x → ⊥
  chain_or_times {n} {bounds} {x} {row} c e = (chain_theory laws).refutes (force k n bounds) row c x e.solution

  -- a chain on both sides, or earliest times on both
  both_judge : (s : State) (bounds : List Row) (next : (ℕ → Exact k) → Ending k)
      → ((x y : ℕ → Exact k) → Times k s.points bounds x → Times k s.points bounds y → Both (next x) (next y))
      → Both (Conflicts k s bounds next) (Conflicts k s bounds next)
  both_judge s bounds next h a b t u (inl p) (inl q) = (ap aside p.2.0 ∙ sym (ap aside q.2.0), p.2.1 ∙ sym q.2.1)
  both_judge s bounds next h a b t u (inl p) (inr q) = absurd (chain_or_times p.1 q.1)
  both_judge s bounds next h a b t u (inr p) (inl q) = absurd (chain_or_times q.1 p.1)
  both_judge s bounds next h a b t u (inr p) (inr q) = h p.0 q.0 p.1 q.1 a b t u p.2 q.2

  -- one call on one plan
  pub steps_agree : (s : State) (c : Call) → Both (Step k s c) (Step k s c)
  steps_agree s (settle length) =
      both_check (both_check (both_check (both_bounds s 0 (rows s) (both_judge s (rows s) _ (λ x y e f.
      both_become (ap settled (moved_same k s.points _ x _ y (λ p l. refl) (times_one e f))) refl)))))
  steps_agree s (post length b) = both_check (both_check (both_check (both_check (both_check (both_check (both_judge s (rows s ++ b ∷ []) _ (λ x y e f.
      both_check (λ a c t u p q.
      both_become (ap moved (moved_same k s.points p.0 x q.0 y (times_one p.1 q.1) (times_one e f))) refl a c t u p.2 q.2))))))))
  steps_agree s (read p) =
      both_check (both_check (λ a b t u y z.
      both_become (ap time ((earliest_theory laws).one (force k s.points (rows s)) p y.0 z.0 y.1 z.1)) refl a b t u y.2 z.2))
  steps_agree s mark = both_check (both_check (both_become refl refl))
  steps_agree s (keep number d) = both_check (both_check (both_become refl refl))
  steps_agree s (back number d) = both_check (both_check (both_become refl refl))

  -- and each call of two runs
  pub runs_agree : (s : State) → RunsAgree k s
  runs_agree s t u [] [] rests rests e = (refl, refl)
  runs_agree s t u [] (y ∷ ys) r q e = cc
  runs_agree s t u (x ∷ xs) [] r q e = cc
  runs_agree s t u (x ∷ xs) (y ∷ ys) (goes {t = v} {c = c} {a = a} p r) (goes {t = w} {c = d} {a = b} q m) e =
      let same : c ≡ d = cc in
      let one = steps_agree s c a b v w p (subst⁻¹ (λ (z : Call). Step k s z b w) same q) in
      let rest = runs_agree v t u xs ys r (subst⁻¹ (λ (z : State). Run k z ys u) one.1 m) (cc) in
      let head : aside a ≡ aside b = one.0 in
      let tail : map answer_of xs ≡ map answer_of ys = rest.0 in
      ((cc), rest.1)
