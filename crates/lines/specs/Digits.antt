-- The number that digits write in a base up to sixteen. Assumes nothing.
use Rattle.std.specs.Prelude.{ℕ, ◌+◌, ◌-◌, ◌*◌, ◌^◌, cond, ◌&&◌, List, [], ◌∷◌, length, Some, None, Option, option_map, option_and_then, nat_le, nat_lt}

-- the value of a byte as a digit: 0 to 9 for themselves, and A to F or a to f for ten to fifteen
abbrev pub any_digit : ℕ → Option ℕ
any_digit c =
    cond (nat_le 48 c && nat_le c 57) (Some (c - 48))
    (cond (nat_le 65 c && nat_le c 70) (Some (10 + (c - 65))) (cond (nat_le 97 c && nat_le c 102) (Some (10 + (c - 97))) None))

-- the value where there is one and it is below the base
abbrev pub below : ℕ → Option ℕ → Option ℕ
below base None = None
below base (Some d) = cond (nat_lt d base) (Some d) None

-- the value of a byte as a digit of the base
abbrev pub digit : ℕ → ℕ → Option ℕ
digit base c = below base (any_digit c)

-- the number that digits write: each digit counts as often as the base to the power of how many digits stand after it; or nothing where a byte is no digit
abbrev pub digits_value : ℕ → List ℕ → Option ℕ
digits_value base [] = Some 0
digits_value base (c ∷ cs) = option_and_then (λ d. option_map (λ n. d * base ^ length cs + n) (digits_value base cs)) (digit base c)
