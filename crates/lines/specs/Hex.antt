-- A word in a field: just eight hexadecimal digits. Assumes nothing.
use Rattle.std.specs.Prelude.{ℕ, cond, List, length, None, Option, ◌==◌}
use Rattle.lines.specs.Digits.{digits_value}

-- the word that just eight hexadecimal digits write, the most significant first, so that it is below 2 ^ 32
abbrev pub word : List ℕ → Option ℕ
word ds = cond (length ds == 8) (digits_value 16 ds) None
