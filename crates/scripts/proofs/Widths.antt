-- How many bytes the words of an answer have. Assumes nothing.
use Rattle.std.proofs.Common.{◌≡◌, ℕ, ◌+◌, ◌/◌, ◌%◌, ◌^◌, ◌<◌, ◌≤◌, ◌∙◌, ap, length, ℤ, pos, negsuc, ◌+ℤ◌, decimal, arith}
use Rattle.std.specs.Prelude.{unsigned_abs}
use Rattle.std.specs.Int.{int_div_euclid}
use Rattle.std.specs.Fmt.{signed_decimal}
use Rattle.std.proofs.lemmas.Fmt.{decimal_step, decimal_nonempty, length-decimal-le, length_signed_le}
use Rattle.std.proofs.lemmas.List.{length_push}
use Rattle.std.proofs.lemmas.Int.{ints}
use Rattle.scripts.specs.Room.{ShortPart}
use Rattle.scripts.specs.Texts.{hundredths}

-- a number has a digit
pub one_digit : (n : ℕ) → n < 2 ^ 64 → 1 ≤ length (decimal n)
one_digit n fits = omega (arith, decimal_nonempty n fits)

-- and one more than its tenth, where it has more
pub digit_more : (n : ℕ) → 10 ≤ n → n < 2 ^ 64 → length (decimal n) ≡ length (decimal (n / 10)) + 1
digit_more n more fits = ap length (decimal_step n more fits) ∙ length_push (decimal (n / 10)) (48 + n % 10)

-- a number of 64 bits
pub count_width : (n : ℕ) → n < 2 ^ 64 → length (decimal n) ≤ 20
count_width n fits = length-decimal-le 20 n (omega arith) (omega (arith, fits)) fits

-- a number of up to thirteen digits, and its minus
signed_width : (z : ℤ) → unsigned_abs z + 1 < 10 ^ 13 → length (signed_decimal z) ≤ 14
signed_width (pos n) small = length_signed_le 13 (pos n) (omega arith) (omega arith)
signed_width (negsuc n) small = length_signed_le 13 (negsuc n) (omega arith) (omega arith)

-- a part of a time
pub part_width : (z : ℤ) → ShortPart z → length (signed_decimal z) ≤ 14
part_width z short = signed_width z (omega arith)

-- a tenth is no larger than the whole, but that it is rounded down
tenth : (z : ℤ) → unsigned_abs (int_div_euclid z (pos 10)) ≤ unsigned_abs z
tenth (pos n) = omega arith
tenth (negsuc n) = omega arith

-- five more
five_more : (z : ℤ) → unsigned_abs (z +ℤ pos 5) ≤ unsigned_abs z + 5
five_more z = omega (arith, ints)

-- a time in hundredths of a second
pub hundredths_width : (t : ℤ) → ShortPart t → length (signed_decimal (hundredths t)) ≤ 14
hundredths_width t short = signed_width (hundredths t) (omega (arith, tenth (t +ℤ pos 5), five_more t))

-- the number of a script's line, and of a point
pub number_width : (n : ℕ) → n < 2 ^ 16 → length (decimal n) ≤ 5
number_width n few = length-decimal-le 5 n (omega arith) (omega arith) (omega arith)
