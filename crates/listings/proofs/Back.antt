-- What is printed for a bound is read as that bound. Assumes nothing.
use Rattle.std.proofs.Common.{true, ◌≡◌, ℕ, zero, suc, ◌+◌, ◌/◌, ◌%◌, ◌^◌, ◌<◌, ◌≤◌, List, [], ◌∷◌, ◌++◌, ℤ, pos, negsuc, Some, Ok, decimal, sym}
use Rattle.std.proofs.Common.{refl, ap, ◌∙◌, pow-suc, arith}
use native.Mathlib.Nat.{div-div-eq-div-mul}
use lib.Signed.{mag}
use Rattle.std.specs.Fmt.{digit_glyph}
use Rattle.std.proofs.lemmas.Fmt.{decimal_nonempty}
use Rattle.std.proofs.lemmas.List.{get_or_append_left}
use Rattle.std.proofs.lemmas.Int.{ints}
use Rattle.std.proofs.lemmas.Bool.Decides.{nat_tests}
use Rattle.bounds.specs.declared.row.Row.{Row}
use Rattle.bounds.specs.Range.{Part, Sound}
use Rattle.bounds.specs.Making.{row_of}
use Rattle.bounds.specs.Text.{row_text}
use Rattle.lines.specs.Decimal.{number}
use Rattle.lines.specs.Digits.{digit}
use Rattle.lines.proofs.Digits.{digits_after, digits_from_zero}
use Rattle.lines.specs.Fields.{fields}
use Rattle.lines.specs.Hex.{word}
use Rattle.lines.specs.Reading.{readings}
use Rattle.lines.proofs.Cuts.{Solid, solid_more}
use Rattle.lines.proofs.Written.{Writes, readings_last, readings_more, digits_more, decimal_lacks, decimal_writes, signed_writes}
use Rattle.words.specs.Text.{hex_digits, hex_text, words_text}
use Rattle.words.specs.Words.{head_word, part_word, row_words}
use Rattle.words.proofs.Writings.{twos_small}
use Rattle.listings.specs.Lines.{IsNote}
use Rattle.listings.specs.Back.{TextReturns}

-- a digit's byte is not below that of `0`, so it is neither a space nor `#`
byte_low : (d : ℕ) → d < 16 → 48 ≤ digit_glyph true d
byte_low d h = grind (arith, nat_tests)

-- a digit's byte is read as that digit
byte_digit : (d : ℕ) → d < 16 → digit 16 (digit_glyph true d) ≡ Some d
byte_digit d h = grind (arith, nat_tests)

-- digits have no space among them
low_solid : (k w : ℕ) → Solid (hex_digits k w)
low_solid zero w = λ i l e. omega arith
low_solid (suc k) w =
    let low = byte_low (w / 16 ^ k % 16) (omega arith) in
    solid_more ((digit_glyph true (w / 16 ^ k % 16))) (hex_digits k w) (λ e. omega arith) (low_solid k w)

-- The k lowest digits of a word, read after w / 16 ^ k, give the word: the next digit takes w / 16 ^ (k + 1) to w / 16 ^ k.
low_value : (k w : ℕ) → digits_after 16 (w / 16 ^ k) (hex_digits k w) ≡ Some w
low_value zero w = ap Some (omega arith)
low_value (suc k) w =
    let above : w / 16 ^ suc k ≡ w / 16 ^ k / 16 = ap (λ n. w / n) (pow-suc 16 k) ∙ sym (div-div-eq-div-mul w (16 ^ k) 16) in
    digits_more 16 (w / 16 ^ suc k) ((digit_glyph true (w / 16 ^ k % 16))) (w / 16 ^ k % 16) (hex_digits k w) (byte_digit (w / 16 ^ k % 16) (omega arith))
    ∙ (ap (λ n. digits_after 16 n (hex_digits k w)) (omega arith) ∙ low_value k w)

-- a word that is written is read as it was
hex_writes : (w : ℕ) → w < 2 ^ 32 → Writes word (hex_text w) w
hex_writes w h =
    let none : 0 ≡ w / 16 ^ 8 = omega arith in
    record {
      solid = low_solid 8 w;
      value = sym (digits_from_zero 16 (hex_digits 8 w)) ∙ (ap (λ n. digits_after 16 n (hex_digits 8 w)) none ∙ low_value 8 w);
    }

-- a line that begins with a word is no note
hex_no_note : (w : ℕ) (rest : List ℕ) → IsNote (hex_text w ++ rest) → ⊥
hex_no_note w rest e =
    let low = byte_low (w / 16 ^ 7 % 16) (omega arith) in
    let first : digit_glyph true (w / 16 ^ 7 % 16) ≡ 35 = e in
    omega arith

-- a line that begins with a number is no note
decimal_no_note : (n : ℕ) (rest : List ℕ) → n < 2 ^ 64 → IsNote (decimal n ++ rest) → ⊥
decimal_no_note n rest h e =
    let some = decimal_nonempty n h in
    decimal_lacks n 35 h (λ d. omega arith) 0 some (sym (get_or_append_left (decimal n) rest 0 0 some) ∙ e)

-- a part is far below 10 ^ 10
part_short : (z : ℤ) → Part z → mag z + 1 < 10 ^ 10
part_short (pos n) h = omega (arith, ints)
part_short (negsuc n) h = omega (arith, ints)

-- the line of a row's words is read as those words
words_back : (r : Row) → Sound r → readings word 1 3 (fields (words_text (row_words r))) ≡ Ok (row_words r)
words_back r i =
    let t = twos_small r.t i.2 in
    let s = twos_small r.s i.3 in
    readings_more word 1 2 (hex_text (head_word r.left r.right)) (hex_text (part_word 2 r.t) ++ (32 ∷ hex_text (part_word 3 r.s))) _ _
    (hex_writes _ (omega arith))
    (readings_more word 2 1 (hex_text (part_word 2 r.t)) (hex_text (part_word 3 r.s)) _ _ (hex_writes _ (omega arith))
    (readings_last word 3 (hex_text (part_word 3 r.s)) _ (hex_writes _ (omega arith))))

-- the line of a row's numbers is read as those numbers
numbers_back : (r : Row) → Sound r → readings number 1 4 (fields (row_text r)) ≡ Ok (pos r.left ∷ (pos r.right ∷ (r.t ∷ (r.s ∷ []))))
numbers_back r i =
    readings_more number 1 3 (decimal r.left) _ _ _ (decimal_writes r.left (omega arith))
    (readings_more number 2 2 (decimal r.right) _ _ _ (decimal_writes r.right (omega arith))
    (readings_more number 3 1 _ _ _ _ (signed_writes r.t (part_short r.t i.2))
    (readings_last number 4 _ _ (signed_writes r.s (part_short r.s i.3)))))

-- the line of a row's numbers is no note
numbers_no_note : (r : Row) → Sound r → IsNote (row_text r) → ⊥
numbers_no_note r i = decimal_no_note r.left _ (omega arith)

-- what is printed for a bound is read as that bound
pub text_returns : TextReturns
text_returns b = (
  (
    hex_no_note (head_word (row_of b).left (row_of b).right) (32 ∷ (hex_text (part_word 2 (row_of b).t) ++ (32 ∷ hex_text (part_word 3 (row_of b).s)))),
    words_back (row_of b) b.sound,
  ),
  (
    numbers_no_note (row_of b) b.sound,
    (
      pos (row_of b).left ∷ (pos (row_of b).right ∷ ((row_of b).t ∷ ((row_of b).s ∷ []))),
      numbers_back (row_of b) b.sound,
      record { left_is = refl; right_is = refl; t_is = refl; s_is = refl },
    ),
  ),
)
