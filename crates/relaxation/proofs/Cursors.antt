-- A walk over the bounds that leave a point, the newest first: what it has done up to where its cursor stands. Assumes nothing.
use Rattle.std.proofs.Common.{◌≡◌, ℕ, ◌+◌, ◌<◌, ◌≤◌, ◌⊎◌, Option, Some, None, List, length, get_or, refl, sym, subst, inl, inr, ⊎_elim, arith}
use Rattle.std.specs.Prelude.{IfSome}
use Rattle.std.proofs.lemmas.Bool.{cases_eq, cases_lt}
use Rattle.relaxation.specs.ByLeft.{Newest, kept_of}

-- what an answer of the index says: the number of the newest of the first `before` bounds that leaves the point
pub record Found (lefts : List ℕ) (before point : ℕ) (at : Option ℕ) : Type 0 where
  pub listed : Newest lefts before point (kept_of at)
  pub few : IfSome at (λ number. number < 65535)

-- `Done` holds of each bound that leaves the point and is not at the cursor or before it
pub record Cursor (lefts : List ℕ) (point : ℕ) (Done : ℕ → Type 0) (at : Option ℕ) : Type 0 where
  pub here : IfSome at (λ number. (number < length lefts) × (number < 65535) × (get_or lefts number 0 ≡ point))
  pub done : (i : ℕ) → (kept_of at ≡ 65535) ⊎ (kept_of at < i) → i < length lefts → get_or lefts i 0 ≡ point → Done i

-- how far the walk may still go
abbrev pub ahead : Option ℕ → ℕ
ahead None = 0
ahead (Some number) = number + 1

module _ {lefts : List ℕ} {point : ℕ} where
  found_here : (at : Option ℕ) {before : ℕ} → before ≤ length lefts → Found lefts before point at
      → IfSome at (λ number. (number < length lefts) × (number < 65535) × (get_or lefts number 0 ≡ point))
  found_here None low f = tt
  found_here (Some number) low f =
      let h = f.listed.some (λ e. omega (arith, f.few)) in
      (omega (arith, h.0), f.few, h.1)

  -- the walk goes on at a lower number, or ends
  pub falls : {at : Option ℕ} {number : ℕ} → at ≡ Some number → (next : Option ℕ) → Found lefts number point next → ahead next < ahead at
  falls is None f = rw is (omega arith)
  falls is (Some lower) f = rw is (omega (arith, (f.listed.some (λ e. omega (arith, f.few))).0))

  module _ {Done : ℕ → Type 0} where
    -- the walk begins at the newest of all
    pub cursor_begins : {at : Option ℕ} → Found lefts (length lefts) point at → Cursor lefts point Done at
    cursor_begins {at} f = record {
      here = found_here at (omega arith) f;
      done = λ i past low leaves. absurd (f.listed.none_since i past low leaves);
    }

    -- the bound at the cursor is done: the walk goes on at the newest one before it
    pub cursor_goes : {number : ℕ} {at : Option ℕ} → Cursor lefts point Done (Some number) → Done number
        → Found lefts number (get_or lefts number 0) at → Cursor lefts point Done at
    cursor_goes {number} {at} c now f =
        let next : Found lefts number point at = subst (λ p. Found lefts number p at) c.here.2 f in record {
          here = found_here at (omega (arith, c.here.0)) next;
          done = λ i past low leaves. elim (cases_eq i number) [
            | inl e ↦ subst Done (sym e) now
            | inr ne ↦ ⊎_elim (λ h. absurd (next.listed.none_since i past h leaves)) (λ h. c.done i (inr (omega arith)) low leaves) (cases_lt i number)
          ];
        }

    pub cursor_ends : Cursor lefts point Done None → (i : ℕ) → i < length lefts → get_or lefts i 0 ≡ point → Done i
    cursor_ends c i low leaves = c.done i (inl refl) low leaves
