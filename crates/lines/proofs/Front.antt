-- The first bytes of a line decide its reading, since a field that is too long is refused whatever it holds. Assumes nothing.
use Rattle.std.proofs.Common.{◌≡◌, ℕ, zero, suc, ◌+◌, ◌-◌, ◌*◌, ◌<◌, ◌≤◌, List, [], ◌∷◌, length, take, None, Err, Option, Result, sym, ap, ◌∙◌, inl, inr}
use Rattle.std.proofs.Common.{mul-suc, arith, length-take}
use lib.Seq.{take-append-add}
use Rattle.std.proofs.lemmas.List.{take_all, take-append-le, get_or-take}
use Rattle.std.proofs.lemmas.Bool.{cases_lt}
use Rattle.lines.specs.Fields.{fields}
use Rattle.lines.specs.Reading.{with_first, readings}
use Rattle.lines.proofs.Cuts.{Solid, fields_last, fields_cut, cut}

-- the first bytes of bytes with no space have none
solid_take : (n : ℕ) (bs : List ℕ) → Solid bs → Solid (take n bs)
solid_take n bs h k l e = let p = length-take n bs in h k (omega arith) (sym (get_or-take n bs k 0 (omega arith)) ∙ e)

-- a reader that refuses each field of more than m bytes
module _ {X : Type 0} (read : List ℕ → Option X) (m : ℕ) (long : (f : List ℕ) → m < length f → read f ≡ None) where
  -- a line has a field, so it is refused where none may be left
  extra : (p : ℕ) (bs : List ℕ) → readings read p zero (fields bs) ≡ Err p
  extra p bs =
      elim (cut bs) [
        | inl s ↦ ap (readings read p zero) (fields_last bs s)
        | inr (f, rest, s, e) ↦ ap (λ x. readings read p zero (fields x)) e ∙ ap (readings read p zero) (fields_cut f rest s)
      ]

  -- a line whose first field is too long is refused there
  over : (p k : ℕ) (bs f : List ℕ) (fs : List (List ℕ)) → fields bs ≡ f ∷ fs → m < length f → readings read p (suc k) (fields bs) ≡ Err p
  over p k bs f fs e h = ap (readings read p (suc k)) e ∙ ap (λ o. with_first p o (readings read (suc p) k fs)) (long f h)

  -- Fields of up to m bytes, each with the space after it, lie within the first n bytes, so those have the same fields.
  -- The first field of more than m bytes is cut at more than m bytes or not at all, so both are refused there.
  pub front : (k p n : ℕ) (bs : List ℕ) → (m + 1) * k ≤ n → readings read p k (fields (take n bs)) ≡ readings read p k (fields bs)
  front zero p n bs h = extra p (take n bs) ∙ sym (extra p bs)
  front (suc k) p n bs h =
      let room : (m + 1) * k + (m + 1) ≤ n = omega (arith, mul-suc (m + 1) k) in
      elim (cut bs) [
        | inl s ↦
            elim (cases_lt n (length bs)) [
              | inl l ↦
                  let size = length-take n bs in
                  over p k (take n bs) (take n bs) [] (fields_last (take n bs) (solid_take n bs s)) (omega arith)
                  ∙ sym (over p k bs bs [] (fields_last bs s) (omega arith))
              | inr g ↦ ap (λ x. readings read p (suc k) (fields x)) (take_all n bs g)
            ]
        | inr (f, rest, s, e) ↦
            let whole : fields bs ≡ f ∷ fields rest = ap fields e ∙ fields_cut f rest s in
            elim (cases_lt (length f) n) [
              | inr g ↦
                  let size = length-take n f in
                  let short : fields (take n bs) ≡ take n f ∷ [] =
                  ap fields (ap (take n) e ∙ take-append-le n f (32 ∷ rest) g) ∙ fields_last (take n f) (solid_take n f s) in
                  over p k (take n bs) (take n f) [] short (omega arith) ∙ sym (over p k bs f (fields rest) whole (omega arith))
              | inl l ↦
                  let r : ℕ = n - length f - 1 in
                  let parts : n ≡ length f + suc r = omega arith in
                  let short : fields (take n bs) ≡ f ∷ fields (take r rest) =
                  ap fields (ap (λ j. take j bs) parts ∙ (ap (take (length f + suc r)) e ∙ take-append-add f (32 ∷ rest) (suc r)))
                  ∙ fields_cut f (take r rest) s in
                  elim (cases_lt m (length f)) [
                    | inl o ↦ over p k (take n bs) f (fields (take r rest)) short o ∙ sym (over p k bs f (fields rest) whole o)
                    | inr u ↦
                        ap (readings read p (suc k)) short
                        ∙ (ap (with_first p (read f)) (front k (suc p) r rest (omega arith)) ∙ sym (ap (readings read p (suc k)) whole))
                  ]
            ]
      ]

  -- so what the first n bytes of a line read as is what the line reads as
  pub decided : (k p n : ℕ) (line whole : List ℕ) (r : Result (List X) ℕ)
      → (m + 1) * k ≤ n → line ≡ take n whole → readings read p k (fields line) ≡ r → readings read p k (fields whole) ≡ r
  decided k p n line whole r h e reads =
      sym (front k p n whole h) ∙ (ap (λ bs. readings read p k (fields bs)) (sym e) ∙ reads)
