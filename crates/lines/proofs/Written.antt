-- What is written of a number is read as that number, and texts with spaces between them are read one by one. Assumes nothing.
use Rattle.std.proofs.Common.{◌≡◌, ℕ, suc, ◌+◌, ◌*◌, ◌/◌, ◌%◌, ◌^◌, ◌<◌, List, [], ◌∷◌, ◌++◌, length, get_or, ℤ, pos, negsuc, Some, None, Ok, decimal, Option}
use Rattle.std.proofs.Common.{option_and_then, option_map, neg_ℤ, sym, refl, ap, ◌∙◌, arith}
use lib.Signed.{mag}
use Rattle.std.proofs.lemmas.Fmt.{decimal_is_IsNumeral, decimal_nonempty, decimal_by_steps, length-decimal-le}
use Rattle.std.proofs.lemmas.Str.Parse.{numerals_by_value, tells_digits, not_in_digits}
use Rattle.std.proofs.lemmas.Bool.{lt-ltb, le-leb, ne_eqb, and_from, cond-true, cond-false}
use Rattle.std.proofs.lemmas.Bool.Decides.{nat_tests}
use Rattle.std.specs.Str.Parse.{AllDigits}
use Rattle.std.specs.Int.{IsInRange}
use Rattle.std.specs.Fmt.{signed_decimal}
use Rattle.lines.specs.Digits.{digit}
use Rattle.lines.specs.Decimal.{natural, number}
use Rattle.lines.specs.Fields.{fields}
use Rattle.lines.specs.Reading.{with_first, readings}
use Rattle.lines.proofs.Digits.{digits_after, digits_from_zero}
use Rattle.lines.proofs.Cuts.{Solid, solid_more, fields_last, fields_cut}

-- the text is one field, in which the reader finds x
pub record Writes {X : Type 0} (read : List ℕ → Option X) (text : List ℕ) (x : X) : Type 0 where
  pub solid : Solid text
  pub value : read text ≡ Some x

-- a text that ends the line is the last of its fields
pub readings_last : {X : Type 0} (read : List ℕ → Option X) (p : ℕ) (text : List ℕ) (x : X) → Writes read text x
    → readings read p 1 (fields text) ≡ Ok (x ∷ [])
readings_last read p text x w =
    ap (readings read p 1) (fields_last text w.solid) ∙ ap (λ o. with_first p o (Ok [])) w.value

-- a text and a space are read before what stands after them
pub readings_more : {X : Type 0} (read : List ℕ → Option X) (p k : ℕ) (text rest : List ℕ) (x : X) (xs : List X) → Writes read text x
    → readings read (suc p) k (fields rest) ≡ Ok xs → readings read p (suc k) (fields (text ++ (32 ∷ rest))) ≡ Ok (x ∷ xs)
readings_more read p k text rest x xs w e =
    ap (readings read p (suc k)) (fields_cut text rest w.solid)
    ∙ (ap (λ o. with_first p o (readings read (suc p) k (fields rest))) w.value ∙ ap (with_first p (Some x)) e)

-- a digit in front of others is taken into the number so far
pub digits_more : (base n c d : ℕ) (cs : List ℕ) → digit base c ≡ Some d → digits_after base n (c ∷ cs) ≡ digits_after base (n * base + d) cs
digits_more base n c d cs e = ap (option_and_then (λ d. digits_after base (n * base + d) cs)) e

-- a function at what another gives, in one step or in two
then_next : (o : Option ℕ) (f g h : ℕ → Option ℕ) → ((d : ℕ) → f d ≡ option_and_then h (g d)) → option_and_then f o ≡ option_and_then h (option_and_then g o)
then_next None f g h e = refl
then_next (Some d) f g h e = e d

-- digits after others go on from the number that those write
pub digits_append : (base n : ℕ) (xs ys : List ℕ) → digits_after base n (xs ++ ys) ≡ option_and_then (λ m. digits_after base m ys) (digits_after base n xs)
digits_append base n [] ys = refl
digits_append base n (c ∷ cs) ys =
    then_next (digit base c) _ (λ d. digits_after base (n * base + d) cs) (λ m. digits_after base m ys) (λ d. digits_append base (n * base + d) cs ys)

-- a decimal digit stands for its distance from `0`
figure : (d : ℕ) → d < 10 → digit 10 (48 + d) ≡ Some d
figure d h = grind (arith, nat_tests)

-- the digits of a number write it: the last is the remainder by ten, and those before it write the quotient
digits_decimal : (n : ℕ) → n < 2 ^ 64 → digits_after 10 0 (decimal n) ≡ Some n
digits_decimal =
    decimal_by_steps (λ n ds. digits_after 10 0 ds ≡ Some n)
    (λ n h. digits_more 10 0 (48 + n) n [] (figure n h) ∙ ap Some (omega arith))
    (λ n ds h e. digits_append 10 0 ds _ ∙ (ap (option_and_then (λ m. digits_after 10 m ((48 + n % 10) ∷ []))) e
    ∙ (digits_more 10 (n / 10) (48 + n % 10) (n % 10) [] (figure (n % 10) (omega arith)) ∙ ap Some (omega arith))))

-- a number is written with no byte but digits
pub decimal_lacks : (n c : ℕ) → n < 2 ^ 64 → (IsInRange 48 57 c → ⊥) → (i : ℕ) → i < length (decimal n) → get_or (decimal n) i 0 ≡ c → ⊥
decimal_lacks n c h other = not_in_digits (numerals_by_value (AllDigits 10) tells_digits) (decimal n) c (decimal_is_IsNumeral n h).0.1 other

-- a number below 10 ^ 10 has one to ten digits, which are read as that number
natural_decimal : (n : ℕ) → n < 10 ^ 10 → natural (decimal n) ≡ Some n
natural_decimal n h =
    cond-true _ _ _ (and_from _ _ (lt-ltb 0 _ (decimal_nonempty n (omega arith))) (le-leb _ 10 (length-decimal-le 10 n (omega arith) h (omega arith))))
    ∙ (sym (digits_from_zero 10 (decimal n)) ∙ digits_decimal n (omega arith))

-- a field with no minus in front has the number of its digits
number_plain : (ds : List ℕ) → (0 < length ds → get_or ds 0 0 ≡ 45 → ⊥) → number ds ≡ option_map pos (natural ds)
number_plain [] h = refl
number_plain (c ∷ cs) h = cond-false _ _ _ (ne_eqb c 45 (h (omega arith)))

-- a natural number that is written is read as it was
pub decimal_writes : (n : ℕ) → n < 10 ^ 10 → Writes number (decimal n) (pos n)
decimal_writes n h = record {
  solid = decimal_lacks n 32 (omega arith) (λ i. omega arith);
  value = number_plain (decimal n) (decimal_lacks n 45 (omega arith) (λ i. omega arith) 0) ∙ ap (option_map pos) (natural_decimal n h);
}

-- and so is a whole number, with its minus
pub signed_writes : (z : ℤ) → mag z + 1 < 10 ^ 10 → Writes number (signed_decimal z) z
signed_writes (pos n) h = decimal_writes n (omega arith)
signed_writes (negsuc n) h = record {
  solid = solid_more 45 (decimal (suc n)) (λ e. omega arith) (decimal_writes (suc n) (omega arith)).solid;
  value = ap (option_map (λ n. neg_ℤ (pos n))) (natural_decimal (suc n) (omega arith));
}
