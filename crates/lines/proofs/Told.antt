-- What a reading tells of the fields, each by itself: the law of readings. Assumes nothing.
use Rattle.std.proofs.Common.{◌≡◌, ℕ, zero, suc, ◌+◌, ◌<◌, List, [], ◌∷◌, length, map, Ok, Err, Some, None, Option, Result, refl, ap, sym, ◌∙◌}
use Rattle.std.proofs.Common.{inl, inr, arith}
use Rattle.lines.specs.declared.fault.LineFault.{LineFault}
use Rattle.lines.specs.Reading.{with_first, readings, listed, HasValue, FirstAtFault, Told}

module _ {X : Type 0} (read : List ℕ → Option X) where
  -- values of the fields from the second on, and one of the first
  one_more : (n : ℕ) (f : List ℕ) (fs : List (List ℕ)) (o : Option X) (r : Result (List X) ℕ) (p : ℕ) (xs : List X) → read f ≡ o
      → ((ys : List X) → r ≡ Ok ys → (map read fs ≡ map Some ys) × (length fs ≡ n)) → with_first p o r ≡ Ok xs
      → (map read (f ∷ fs) ≡ map Some xs) × (suc (length fs) ≡ suc n)
  one_more n f fs None r p xs e rest h = absurd (cc)
  one_more n f fs (Some x) (Err q) p xs e rest h = absurd (cc)
  one_more n f fs (Some x) (Ok ys) p xs e rest h =
      let is : x ∷ ys ≡ xs = cc in
      let others = rest ys refl in
      let both : map read (f ∷ fs) ≡ map Some (x ∷ ys) = cc (e, others.0) in
      (both ∙ ap (map Some) is, ap suc others.1)

  -- the values are those of the fields
  values_told : (p n : ℕ) (fs : List (List ℕ)) (xs : List X) → readings read p n fs ≡ Ok xs → (map read fs ≡ map Some xs) × (length fs ≡ n)
  values_told p zero [] xs h = let is : [] ≡ xs = cc in (ap (map Some) is, refl)
  values_told p zero (f ∷ fs) xs h = absurd (cc)
  values_told p (suc n) [] xs h = absurd (cc)
  values_told p (suc n) (f ∷ fs) xs h = one_more n f fs (read f) (readings read (suc p) n fs) p xs refl (values_told (suc p) n fs) h

  -- a field more in front, which has a value
  fault_later : (n k : ℕ) (f : List ℕ) (fs : List (List ℕ)) (x : X) → read f ≡ Some x → FirstAtFault read n fs k
      → FirstAtFault read (suc n) (f ∷ fs) (suc k)
  fault_later n k f fs x e first = record {
    before = before;
    fault = elim first.fault [
      | inl (less, bad) ↦ inl (omega arith, λ h. bad (omega arith, h.1))
      | inr (all, more) ↦ inr (ap suc all, omega arith)
    ];
  }
    where
      before : (j : ℕ) → j < suc k → HasValue read (f ∷ fs) j
      before zero h = (omega arith, λ none. absurd (let no : Some x ≡ None = sym e ∙ none in cc))
      before (suc j) h = let there = first.before j (omega arith) in (omega arith, there.1)

  -- the first field has no value, or those after it have the first at fault
  first_or_later : (n : ℕ) (f : List ℕ) (fs : List (List ℕ)) (o : Option X) (r : Result (List X) ℕ) (p q : ℕ) → read f ≡ o
      → (r ≡ Err q → (k : ℕ) × (q ≡ k + suc p) × FirstAtFault read n fs k) → with_first p o r ≡ Err q
      → (k : ℕ) × (q ≡ k + p) × FirstAtFault read (suc n) (f ∷ fs) k
  first_or_later n f fs None r p q e rest h =
      let here : p ≡ q = cc in (
        0,
        omega arith,
        record { before = λ j less. absurd (let no : ⊥ = omega arith in no); fault = inl (omega arith, λ has. has.1 e) },
      )
  first_or_later n f fs (Some x) (Ok ys) p q e rest h = absurd (cc)
  first_or_later n f fs (Some x) (Err q') p q e rest h =
      let (k, place, first) = rest (h) in
      (suc k, omega arith, fault_later n k f fs x e first)

  -- a refusal names the first field at fault
  fault_told : (p n : ℕ) (fs : List (List ℕ)) (q : ℕ) → readings read p n fs ≡ Err q → (k : ℕ) × (q ≡ k + p) × FirstAtFault read n fs k
  fault_told p zero [] q h = absurd (cc)
  fault_told p zero (f ∷ fs) q h =
      let here : p ≡ q = cc in (
        0,
        omega arith,
        record { before = λ j less. absurd (let no : ⊥ = omega arith in no); fault = inr (refl, omega arith) },
      )
  fault_told p (suc n) [] q h =
      let here : p ≡ q = cc in (
        0,
        omega arith,
        record {
          before = λ j less. absurd (let no : ⊥ = omega arith in no);
          fault = inl (omega arith, λ has. let no : ⊥ = omega (arith, has.0) in no);
        },
      )
  fault_told p (suc n) (f ∷ fs) q h = first_or_later n f fs (read f) (readings read (suc p) n fs) p q refl (fault_told (suc p) n fs q) h

  pub told : (n : ℕ) (fs : List (List ℕ)) (r : Result (List X) LineFault) → readings read 1 n fs ≡ listed r → Told read n fs r
  told n fs (Ok xs) h = values_told 1 n fs xs h
  told n fs (Err e) h = fault_told 1 n fs _ h
