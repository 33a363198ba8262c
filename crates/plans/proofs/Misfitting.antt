-- The check of each bound at settle, from the first that does not fit. Assumes nothing.
use Rattle.std.proofs.Common.{◌≡◌, ℕ, zero, suc, ◌+◌, ◌<◌, List, [], ◌∷◌, length, ℤ, Ok, Err, Result, sym, refl, ap, ◌∙◌, subst, inl, inr, ⊎_elim, arith}
use Rattle.std.specs.List.{All}
use Rattle.bounds.specs.declared.row.Row.{Row}
use Rattle.delays.specs.Kind.{Kind, Exact, Within, Parts, Lawful}
use Rattle.delays.specs.Faults.{PairRead}
use Rattle.delays.specs.declared.fault.KindFault.{KindFault}
use Rattle.delays.specs.declared.fault.KindFault.TheVariants.{Unread as unread}
use Rattle.plans.specs.declared.fault.PlanFault.{PlanFault}
use Rattle.plans.specs.declared.fault.PlanFault.TheVariants.{Point, Kind as KindRefuses}
use Rattle.plans.specs.Rows.{Fit, Outside}
use Rattle.relaxation.proofs.Rows.{value_of}
use Rattle.plans.specs.Misfits.{PairChecked, Misfit, FitBefore, RowsChecked}
use Rattle.plans.specs.Answers.{Answer, refused}
use Rattle.plans.specs.States.{State, rows}
use Rattle.plans.specs.Steps.{Ending, EachBound}

-- a pair that is read gives the row's delay
pub pair_checked : {X : Type 0} {k : Kind} (laws : Lawful k) (means : X → Exact k) → ((x : X) → Within k (means x)) → (r : Row) {t s : ℤ}
    → t ≡ r.t → s ≡ r.s → (answer : Result X KindFault) → PairRead k means t s answer → PairChecked k means r answer
pair_checked {k = k} laws means within r e f (Ok x) parts =
    let own : Parts k (means x) r.t r.s = rw (e, f) at parts in
    (λ none. none (means x) (within x) own, value_of laws (means x) r.t r.s (within x) own)
pair_checked {k = k} laws means within r e f (Err fault) none = rw (e, f) at none

-- a row with both points below n is not outside
pub inside : (n : ℕ) (r : Row) → r.left < n → r.right < n → Outside n r → ⊥
inside n r l m = ⊎_elim (λ h. let e : ⊥ = omega arith in e) (λ h. let e : ⊥ = omega arith in e)

module _ (k : Kind) (s : State) (next : Ending k) where
  each_fits : (a : Answer k) (t : State) (i : ℕ) (bs : List Row) → All (Fit k s.points) bs → next a t → EachBound k s i bs next a t
  each_fits a t i [] fit then = then
  each_fits a t i (b ∷ bs) fit then =
      let here : Fit k s.points b = fit 0 b (omega arith) in
      inr (inside s.points b here.left here.right, inr (here.read, each_fits a t (i + 1) bs (λ j d h. fit (suc j) d (omega arith)) then))

  module _ (fault : PlanFault) (a : Answer k) (t : State) (answer : a ≡ refused fault) (same : t ≡ s) where
    -- the row that does not fit is refused
    refused_here : (f : PlanFault) (m i : ℕ) (b : Row) (bs : List Row) → f ≡ fault → m ≡ i → Misfit k s.points m b f → EachBound k s i (b ∷ bs) next a t
    refused_here (Point place) m i b bs f e h = inl (h.1, (answer ∙ sym (ap refused f) ∙ ap (λ p. refused (Point p)) (h.0 ∙ e), same))
    refused_here (KindRefuses unread place) m i b bs f e h =
        let why = h.1 in
        inr (inside s.points b why.left why.right, inl (why.unread, (answer ∙ sym (ap refused f) ∙ ap (λ p. refused (KindRefuses unread p)) (h.0 ∙ e), same)))
    refused_here other m i b bs f e h = absurd h

    each_misfit : (m i j : ℕ) (bs : List Row) → m ≡ i + j → FitBefore k s.points bs j (λ r. Misfit k s.points m r fault) → EachBound k s i bs next a t
    each_misfit m i j [] e h = absurd (let low = h.number in let never : ⊥ = omega arith in never)
    each_misfit m i zero (b ∷ bs) e h = refused_here fault m i b bs refl (omega arith) (h.here b)
    each_misfit m i (suc j) (b ∷ bs) e h =
        let here : Fit k s.points b = h.before 0 b (omega arith) in
        let low : suc j < length (b ∷ bs) = h.number in
        inr (
          inside s.points b here.left here.right,
          inr (
            here.read,
            each_misfit m (i + 1) j bs (omega arith) (record {
              number = omega arith;
              before = λ q d l. h.before (suc q) d (omega arith);
              here = h.here;
            }),
          ),
        )

  -- each bound of the plan's book fits, and what follows decides
  pub each_bound_fits : (n : ℕ) (a : Answer k) (t : State) → s.points ≡ n → All (Fit k n) (rows s) → next a t → EachBound k s 0 (rows s) next a t
  each_bound_fits n a t e fit = each_fits a t 0 (rows s) (subst (λ m. All (Fit k m) (rows s)) (sym e) fit)

  -- the first that does not fit is refused
  pub each_bound_refused : (n : ℕ) (fault : PlanFault) (a : Answer k) (t : State) → s.points ≡ n → RowsChecked k n (rows s) (Err fault)
      → a ≡ refused fault → t ≡ s → EachBound k s 0 (rows s) next a t
  each_bound_refused n fault a t e h answer same =
      let first : RowsChecked k s.points (rows s) (Err fault) = subst (λ m. RowsChecked k m (rows s) (Err fault)) (sym e) h in
      each_misfit fault a t answer same first.0 0 first.0 (rows s) (omega arith) first.1
