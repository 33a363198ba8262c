-- What is left to decide of a settle and of a post after their checks. Assumes nothing.
use Rattle.std.proofs.Common.{◌≡◌, ◌≢◌, ℕ, ◌<◌, ◌≤◌, true, false, List, [], ◌∷◌, ◌++◌, Ok, Err, Result, ◌⊎◌, refl, sym, ap, ◌∙◌, inl, inr, pos, ⊎_elim, arith}
use Rattle.std.specs.Result.{MatchResult, IsErrAnd}
use Rattle.std.proofs.lemmas.Bool.{both_ways}
use Rattle.bounds.specs.declared.row.Row.{Row}
use Rattle.delays.specs.Kind.{Kind, Unread}
use Rattle.delays.specs.declared.fault.KindFault.{KindFault}
use Rattle.delays.specs.declared.fault.KindFault.TheVariants.{Unread as unread}
use Rattle.plans.specs.declared.fault.PlanFault.{PlanFault}
use Rattle.plans.specs.declared.fault.PlanFault.TheVariants.{SettledAlready, Points, ListShort, Point, Kind as KindRefuses, Conflict}
use Rattle.plans.specs.Faults.{of_kind, fault_of}
use Rattle.plans.specs.Rows.{moved_count}
use Rattle.plans.specs.Misfits.{Misfit, RowsChecked}
use Rattle.plans.specs.Answers.{Answer, settle, post, settled, refused}
use Rattle.plans.specs.States.{State, rows, settling}
use Rattle.plans.specs.Steps.{Becomes, Conflicts, PostDecided, Step}
use Rattle.plans.specs.Runs.{Tries}
use Rattle.plans.specs.Plans.{Refused}
use Rattle.plans.proofs.Misfitting.{each_bound_fits, each_bound_refused}

-- a fault with another number is no conflict
no_number : {e : PlanFault} {c : ℕ} (m : ℕ) → e ≡ Conflict c → (fault_of e).number ≡ m → (m ≡ 8 → ⊥) → ⊥
no_number m same number other = other (sym number ∙ ap (λ f. (fault_of f).number) same)

-- the check of each bound refuses with no conflict
misfit_no_conflict : (k : Kind) (n i : ℕ) (r : Row) (e : PlanFault) → Misfit k n i r e → (c : ℕ) → e ≢ Conflict c
misfit_no_conflict k n i r (Point place) h c same = no_number 5 same refl (omega arith)
misfit_no_conflict k n i r (KindRefuses unread place) h c same = no_number 6 same refl (omega arith)
misfit_no_conflict k n i r fault h c same = h

module _ (k : Kind) (s : State) {length : ℕ} where
  -- a settle that passes its checks is decided by whether there is a conflict
  pub settle_decided : {bounds : List Row} → Tries k s (settle length) bounds → (a : Answer k) (t : State)
      → Conflicts k s (rows s) (λ x. Becomes (settled (moved_count k s.points (λ p. k.zero) x)) (settling s)) a t → Step k s (settle length) a t
  settle_decided h a t c =
      inr (
        λ on. both_ways s.settled h.0 on,
        inr (
          ⊎_elim (λ none. omega (arith, none, h.1)) (λ many. omega (arith, many, h.2)),
          inr (
            λ short. omega (arith, short, h.3),
            each_bound_fits k s _ s.points a t refl h.4 c,
          ),
        ),
      )

  -- the refusals of settle before the bounds are checked
  pub already_refused : s.settled ≡ true → Refused k s (settle length) SettledAlready
  already_refused on = record {
    step = inl (on, (refl, refl));
    no_conflict = λ c same. no_number 2 same refl (λ never. omega (arith, never));
  }

  pub points_refused : s.settled ≡ false → (s.points ≡ 0) ⊎ (128 < s.points) → Refused k s (settle length) Points
  points_refused off out = record {
    step = inr (λ on. both_ways s.settled off on, inl (out, (refl, refl)));
    no_conflict = λ c same. no_number 3 same refl (λ never. omega (arith, never));
  }

  pub short_refused : s.settled ≡ false → (s.points ≡ 0 → ⊥) → s.points ≤ 128 → length < s.points → Refused k s (settle length) ListShort
  short_refused off some few short = record {
    step = inr (
      λ on. both_ways s.settled off on,
      inr (⊎_elim (λ none. some none) (λ many. omega (arith, many, few)), inl (short, (refl, refl))),
    );
    no_conflict = λ c same. no_number 4 same refl (λ never. omega (arith, never));
  }

  -- what the checks of settle answer, by that of each bound
  pub bounds_checked : s.settled ≡ false → (s.points ≡ 0 → ⊥) → s.points ≤ 128 → s.points ≤ length → (r : Result (Unit {0}) PlanFault)
      → RowsChecked k s.points (rows s) r → MatchResult r (λ u. Tries k s (settle length) (rows s)) (Refused k s (settle length))
  bounds_checked off some few long (Ok u) fit = (off, omega (arith, some), few, long, fit, refl)
  bounds_checked off some few long (Err e) h = record {
    step = inr (
      λ on. both_ways s.settled off on,
      inr (
        ⊎_elim (λ none. some none) (λ many. omega (arith, many, few)),
        inr (
          λ short. omega (arith, short, long),
          each_bound_refused k s _ s.points e (refused e) s refl h refl refl,
        ),
      ),
    );
    no_conflict = misfit_no_conflict k s.points h.0 _ e (h.1.here (record { left = 0; right = 0; t = pos 0; s = pos 0 }));
  }

module _ (k : Kind) (s : State) (length : ℕ) (b : Row) where
  -- and so is a post, by whether it is covered, and else by whether there is a conflict and a free place
  pub post_decided : {bounds : List Row} → Tries k s (post length b) bounds → (a : Answer k) (t : State) → PostDecided k s b a t → Step k s (post length b) a t
  post_decided h a t d =
      let fit = h.1 in
      inr (
        λ off. both_ways s.settled off h.0,
        inr (
          λ out. omega (arith, out, fit.left),
          inr (
            λ out. omega (arith, out, fit.right),
            inr (
              fit.read,
              inr (λ short. omega (arith, short, h.2), d),
            ),
          ),
        ),
      )

  -- the refusals of a post
  pub left_refused : s.settled ≡ true → s.points ≤ b.left → Refused k s (post length b) (Point 1)
  left_refused on out = record {
    step = inr (λ off. both_ways s.settled off on, inl (out, (refl, refl)));
    no_conflict = λ c same. no_number 5 same refl (λ never. omega (arith, never));
  }

  pub right_refused : s.settled ≡ true → b.left < s.points → s.points ≤ b.right → Refused k s (post length b) (Point 2)
  right_refused on left out = record {
    step = inr (λ off. both_ways s.settled off on, inr (λ far. omega (arith, far, left), inl (out, (refl, refl))));
    no_conflict = λ c same. no_number 5 same refl (λ never. omega (arith, never));
  }

  -- the kind's fault is carried whole
  pub pair_answered : {U : Type 0} (P : U → Type 0) (r : Result U PlanFault) (f : KindFault) → IsErrAnd r (λ e. e ≡ of_kind f) → s.settled ≡ true
      → b.left < s.points → b.right < s.points → Unread k b.t b.s → MatchResult r P (Refused k s (post length b))
  pair_answered P (Ok u) f none on left right no_delay = absurd none
  pair_answered P (Err e) unread is on left right no_delay = record {
    step = inr (
      λ off. both_ways s.settled off on,
      inr (λ out. omega (arith, out, left), inr (λ out. omega (arith, out, right), inl (no_delay, (ap refused is, refl)))),
    );
    no_conflict = λ c same. no_number 6 (sym is ∙ same) refl (λ never. omega (arith, never));
  }

  pub list_refused : s.settled ≡ true → b.left < s.points → b.right < s.points → (Unread k b.t b.s → ⊥) → length < s.points
      → Refused k s (post length b) ListShort
  list_refused on left right read short = record {
    step = inr (
      λ off. both_ways s.settled off on,
      inr (λ out. omega (arith, out, left), inr (λ out. omega (arith, out, right), inr (read, inl (short, (refl, refl))))),
    );
    no_conflict = λ c same. no_number 4 same refl (λ never. omega (arith, never));
  }

  pub post_tries : s.settled ≡ true → b.left < s.points → b.right < s.points → (Unread k b.t b.s → ⊥) → s.points ≤ length
      → Tries k s (post length b) (rows s ++ b ∷ [])
  post_tries on left right read long = (on, record { left = left; right = right; read = read }, long, refl)
