-- Values that are taken one by one from the fields of a line. Assumes nothing.
use Rattle.std.proofs.Common.{◌≡◌, ℕ, suc, ◌+◌, ◌-◌, ◌<◌, List, [], ◌∷◌, ◌++◌, length, take, drop, set, Ok, Err, Some, Option, Result, refl, ap, sym}
use Rattle.std.proofs.Common.{◌∙◌, inl, inr}
use Rattle.std.proofs.Common.{append_assoc, add-one, arith}
use Rattle.std.proofs.lemmas.List.{drop-drop, take_more_set}
use Rattle.lines.specs.declared.fault.LineFault.{LineFault}
use Rattle.lines.specs.declared.fault.LineFault.TheVariants.{Unreadable}
use Rattle.lines.specs.Faults.{place_of}
use Rattle.lines.specs.Reading.{with_first, readings, Taken}

-- the values xs, and then those of a reading
abbrev pub after : {X : Type 0} → List X → Result (List X) ℕ → Result (List X) ℕ
after xs (Ok ys) = Ok (xs ++ ys)
after xs (Err p) = Err p

-- a value more is the first of those that are read
after_more : {X : Type 0} (p : ℕ) (xs : List X) (x : X) (r : Result (List X) ℕ) → after xs (with_first p (Some x) r) ≡ after (xs ++ (x ∷ [])) r
after_more p xs x (Ok ys) = ap Ok (sym (append_assoc xs (x ∷ []) ys))
after_more p xs x (Err q) = refl

-- where a field after the first i of them all is taken, those after it are left
pub left_after : (i : ℕ) (every fs gs : List (List ℕ)) → fs ≡ drop i every → gs ≡ drop 1 fs → gs ≡ drop (i + 1) every
left_after i every fs gs left next = next ∙ (ap (drop 1) left ∙ drop-drop 1 i every)

-- and a refusal of the field at that place leaves those after it too
pub left_after_fault : (i : ℕ) (every fs gs : List (List ℕ)) (e : LineFault) → fs ≡ drop i every → gs ≡ drop 1 fs → e ≡ Unreadable (i + 1)
    → gs ≡ drop (place_of e) every
left_after_fault i every fs gs e left next fault = left_after i every fs gs left next ∙ ap (λ p. drop p every) (sym (ap place_of fault))

module _ {X : Type 0} (read : List ℕ → Option X) where
  -- a field that is missing or bad is taken, where it is there
  pub bad_taken : (p : ℕ) (fs gs : List (List ℕ)) (e : LineFault) → Taken read p fs (Err e) gs → gs ≡ drop 1 fs
  bad_taken p fs gs e t =
      elim t.1 [
        | inl none ↦ none.1 ∙ sym (ap (drop 1) none.0)
        | inr (f, is, bad) ↦ sym (ap (drop 1) is)
      ]

  -- a field that is taken is one of those that were left
  pub one_less : (p : ℕ) (fs gs : List (List ℕ)) (x : X) → Taken read p fs (Ok x) gs → length fs ≡ length gs + 1
  one_less p fs gs x h = ap length h.1 ∙ sym (add-one (length gs))

  -- where n values are to be read, i are there, and the next is taken
  pub taken : (n i : ℕ) (xs : List X) (fs gs : List (List ℕ)) (x : X) → i < n → i < length xs → Taken read (i + 1) fs (Ok x) gs
      → after (take i xs) (readings read (i + 1) (n - i) fs) ≡ after (take (i + 1) (set xs i x)) (readings read (i + 1 + 1) (n - (i + 1)) gs)
  taken n i xs fs gs x h k t =
      let m : ℕ = n - (i + 1) in
      let left : n - i ≡ suc m = omega arith in
      let step : readings read (i + 1) (suc m) (t.0 ∷ gs) ≡ with_first (i + 1) (read t.0) (readings read (suc (i + 1)) m gs) = refl in
      cc (left, t.1, t.2, step, add-one (i + 1), take_more_set xs i x k, after_more (i + 1) (take i xs) x (readings read (suc (i + 1)) m gs))

  -- a field that is missing or bad ends the reading at its place
  pub refused : (p k : ℕ) (fs gs : List (List ℕ)) (e : LineFault) → Taken read p fs (Err e) gs → readings read p (suc k) fs ≡ Err (place_of e)
  refused p k fs gs e t =
      elim t.1 [
        | inl none ↦ ap (readings read p (suc k)) none.0 ∙ ap Err (sym (ap place_of t.0))
        | inr (f, is, bad) ↦ ap (readings read p (suc k)) is ∙ (ap (λ o. with_first p o (readings read (suc p) k gs)) bad ∙ ap Err (sym (ap place_of t.0)))
      ]
