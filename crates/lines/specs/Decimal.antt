-- A decimal number in a field: an optional minus, and one to ten digits. Assumes nothing.
use Rattle.std.specs.Prelude.{ℕ, cond, ◌&&◌, List, [], ◌∷◌, length, ℤ, pos, neg_ℤ, None, Option, option_map, ◌==◌, nat_le, nat_lt}
use Rattle.lines.specs.Digits.{digits_value}

-- the number that one to ten decimal digits write
abbrev pub natural : List ℕ → Option ℕ
natural ds = cond (nat_lt 0 (length ds) && nat_le (length ds) 10) (digits_value 10 ds) None

-- the number in a field, where a minus, which is byte 45, may stand in front; there is no plus
abbrev pub number : List ℕ → Option ℤ
number [] = None
number (c ∷ cs) = cond (c == 45) (option_map (λ n. neg_ℤ (pos n)) (natural cs)) (option_map pos (natural (c ∷ cs)))
