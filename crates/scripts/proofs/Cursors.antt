-- What is read at a place of a script is what the fields of its line hold. Assumes nothing.
use Rattle.std.proofs.Common.{◌≡◌, ℕ, suc, ◌+◌, ◌-◌, ◌*◌, ◌^◌, ◌<◌, ◌≤◌, ◌⊎◌, eqb, List, [], ◌∷◌, ◌++◌, length, get_or, drop}
use Rattle.std.proofs.Common.{Some, None, option_and_then, refl, sym, ap, ◌∙◌, subst, inl, inr, arith, lit≤}
use native.Mathlib.Nat.{pow-zero, pow-le-pow_right}
use Rattle.std.proofs.lemmas.Bool.{cases_lt, cases_eq, eq-eqb, ne_eqb, cond-true, cond-false, cond_both}
use Rattle.std.proofs.lemmas.Bool.Decides.{nat_tests}
use Rattle.std.proofs.lemmas.List.{at_drop_more, at_drop_all, get_or_past, length-drop, length_push, append_assoc}
use Rattle.lines.specs.Digits.{digit}
use Rattle.lines.proofs.Digits.{digits_after, digits_from_zero, digit_below, next_fits}
use Rattle.lines.proofs.Written.{digits_more, digits_append}
use Rattle.scripts.specs.Cursor.{until_feed, line_from, line_end, NoDigit, DigitsAt}

module _ (s : List ℕ) (at : ℕ) where
  -- the line ends at a line feed, and at the end
  pub at_feed : get_or s at 10 ≡ 10 → line_from s at ≡ []
  at_feed is =
      elim (cases_lt at (length s)) [
        | inl inside ↦ at_drop_more until_feed s at 10 inside ∙ cond-true (eqb (get_or s at 10) 10) _ _ (eq-eqb _ 10 is)
        | inr past ↦ at_drop_all until_feed s at past
      ]

  -- and another byte stands in it
  pub at_byte : (get_or s at 10 ≡ 10 → ⊥) → line_from s at ≡ get_or s at 10 ∷ line_from s (at + 1)
  at_byte other =
      elim (cases_lt at (length s)) [
        | inl inside ↦ at_drop_more until_feed s at 10 inside ∙ cond-false (eqb (get_or s at 10) 10) _ _ (ne_eqb _ 10 other)
        | inr past ↦ absurd (other (get_or_past s at 10 past))
      ]

  pub ends_here : line_from s at ≡ [] → line_end s at ≡ at
  ends_here none = let size : length (line_from s at) ≡ 0 = ap length none in omega (arith, size)

  pub ends_on : (get_or s at 10 ≡ 10 → ⊥) → line_end s (at + 1) ≡ line_end s at
  ends_on other = let size : length (line_from s at) ≡ suc (length (line_from s (at + 1))) = ap length (at_byte other) in omega (arith, size)

until_size : (xs : List ℕ) → length (until_feed xs) ≤ length xs
until_size [] = omega arith
until_size (b ∷ bs) =
    cond_both (eqb b 10) [] (b ∷ until_feed bs) (λ left. length left ≤ suc (length bs)) (λ _. omega arith) (λ _. omega (arith, until_size bs))

-- a line ends in the script, and not before it begins
pub ends_inside : (s : List ℕ) (at : ℕ) → at ≤ length s → line_end s at ≤ length s
ends_inside s at inside = omega (arith, until_size (drop at s), length-drop at s)

pub starts_inside : (s : List ℕ) (at : ℕ) → at ≤ line_end s at
starts_inside s at = omega arith

-- a byte from `0` to `9` stands for its distance from `0`
figure : (b : ℕ) → 48 ≤ b → b ≤ 57 → digit 10 b ≡ Some (b - 48)
figure b low high = grind (arith, nat_tests)

-- and another is no digit
no_figure : (b : ℕ) → (b < 48) ⊎ (57 < b) → digit 10 b ≡ None
no_figure b (inl low) = grind (arith, nat_tests)
no_figure b (inr high) = grind (arith, nat_tests)

-- the digits so far, and the number that they write
pub record DigitsUpto (s : List ℕ) (first value end : ℕ) : Type 0 where
  pub digits : List ℕ
  pub line : line_from s first ≡ digits ++ line_from s end
  pub ends : end ≡ first + length digits
  pub few : length digits ≤ 10
  pub reads : digits_after 10 0 digits ≡ Some value
  pub small : value < 10 ^ length digits
  pub inside : end ≤ length s

module _ (s : List ℕ) (first : ℕ) where
  pub digits_none : first ≤ length s → DigitsUpto s first 0 first
  digits_none inside = record {
    digits = [];
    line = refl;
    ends = omega arith;
    few = omega arith;
    reads = refl;
    small = let one : 10 ^ 0 ≡ 1 = pow-zero 10 in omega (arith, one);
    inside = inside;
  }

  -- one digit more
  pub digits_step : (value end byte next : ℕ) → DigitsUpto s first value end → end < first + 10 → end < length s → byte ≡ get_or s end 10
      → 48 ≤ byte → byte ≤ 57 → next ≡ value * 10 + (byte - 48) → DigitsUpto s first next (end + 1)
  digits_step value end byte next d more inside is low high sum =
      let ds = d.digits in
      let count : end ≡ first + length ds = d.ends in
      let size : length (ds ++ byte ∷ []) ≡ length ds + 1 = length_push ds byte in
      let one : digits_after 10 value (byte ∷ []) ≡ Some (value * 10 + (byte - 48)) = digits_more 10 value byte (byte - 48) [] (figure byte low high) in
      let rest : line_from s end ≡ byte ∷ line_from s (end + 1) =
      at_byte s end (λ feed. let no : ⊥ = omega (arith, feed, is, low) in no) ∙ ap (λ b. b ∷ line_from s (end + 1)) (sym is) in
      let below : value * 10 + (byte - 48) < 10 ^ (length ds + 1) = digit_below 10 value (byte - 48) (length ds) d.small (omega (arith, low, high)) in
      record {
        digits = ds ++ byte ∷ [];
        line = d.line ∙ ap (λ xs. ds ++ xs) rest ∙ sym (append_assoc ds (byte ∷ []) (line_from s (end + 1)));
        ends = omega (arith, count, size);
        few = omega (arith, count, size, more);
        reads = digits_append 10 0 ds (byte ∷ []) ∙ ap (option_and_then (λ m. digits_after 10 m (byte ∷ []))) d.reads ∙ one ∙ ap Some (sym sum);
        small = subst (λ (n : ℕ). n < 10 ^ length (ds ++ byte ∷ [])) (sym sum)
            (subst (λ (k : ℕ). value * 10 + (byte - 48) < 10 ^ k) (sym size) below);
        inside = omega (arith, inside);
      }

  -- so few digits fit
  pub digits_fit : (value end d : ℕ) → DigitsUpto s first value end → end < first + 10 → d < 10 → value * 10 + d < 2 ^ 40
  digits_fit value end d u more small =
      let count : end ≡ first + length u.digits = u.ends in
      next_fits 10 value d (length u.digits) (omega arith) (omega (arith, count, more)) u.small small

  digits_end : (value end : ℕ) → DigitsUpto s first value end
      → ((d : DigitsUpto s first value end) → (length d.digits ≡ 10) ⊎ NoDigit (line_from s end)) → DigitsAt s first value end
  digits_end value end d stops = record {
    digits = d.digits;
    line = d.line;
    ends = d.ends;
    few = d.few;
    reads = sym (digits_from_zero 10 d.digits) ∙ d.reads;
    small = let most : 10 ^ length d.digits ≤ 10 ^ 10 = pow-le-pow_right (lit≤ tt) d.few in let under = d.small in omega (arith, most, under);
    stops = stops d;
  }

  -- they end at a byte that is none
  pub digits_stop : (value end byte : ℕ) → DigitsUpto s first value end → byte ≡ get_or s end 10 → (byte < 48) ⊎ (57 < byte)
      → DigitsAt s first value end
  digits_stop value end byte d is other = digits_end value end d (λ u. inr (go (cases_eq byte 10)))
    where
      go : (byte ≡ 10) ⊎ (byte ≡ 10 → ⊥) → NoDigit (line_from s end)
      go (inl feed) b bs e = let no : ◌≡◌ {A = List ℕ} [] (b ∷ bs) = sym (at_feed s end (sym is ∙ feed)) ∙ e in absurd (cc)
      go (inr more) b bs e =
          let same : get_or s end 10 ∷ line_from s (end + 1) ≡ b ∷ bs = sym (at_byte s end (λ feed. more (is ∙ feed))) ∙ e in
          let here : get_or s end 10 ≡ b = cc in
          ap (digit 10) (sym here ∙ sym is) ∙ no_figure byte other

  -- or where there are ten, or the script ends
  pub digits_full : (value end limit : ℕ) → DigitsUpto s first value end → limit ≤ end → (limit ≡ length s) ⊎ (limit ≡ first + 10)
      → DigitsAt s first value end
  digits_full value end limit d past (inl whole) =
      digits_end value end d (λ u. inr (λ b bs e.
      let no : ◌≡◌ {A = List ℕ} [] (b ∷ bs) = sym (at_drop_all until_feed s end (omega (arith, past, whole))) ∙ e in absurd (cc)))
  digits_full value end limit d past (inr ten) =
      digits_end value end d (λ u. inl (let count : end ≡ first + length u.digits = u.ends in let few : length u.digits ≤ 10 = u.few in
      omega (arith, count, few, past, ten)))
