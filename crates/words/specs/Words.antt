-- The words of a bound, as numbers. A word is its two top bits times 2 ^ 30, and what lies below them. Assumes nothing.
use Rattle.std.specs.Prelude.{ℕ, suc, ◌+◌, ◌-◌, ◌*◌, ◌^◌, List, [], ◌∷◌, ℤ, pos, negsuc}
use Rattle.std.specs.List.{flat_map}
use Rattle.bounds.specs.declared.row.Row.{Row}

-- 30-bit two's complement: a negative number has 2 ^ 30 added
abbrev pub twos : ℤ → ℕ
twos (pos n) = n
twos (negsuc n) = 2 ^ 30 - suc n

-- the head: top bits 01, six zero bits, twelve bits for the left point, and twelve for the right
abbrev pub head_word : ℕ → ℕ → ℕ
head_word left right = 1 * 2 ^ 30 + left * 2 ^ 12 + right

-- a part under its two top bits, 2 for t and 3 for s
abbrev pub part_word : ℕ → ℤ → ℕ
part_word tag z = tag * 2 ^ 30 + twos z

-- the three words of a row
abbrev pub row_words : Row → List ℕ
row_words r = head_word r.left r.right ∷ (part_word 2 r.t ∷ (part_word 3 r.s ∷ []))

-- the writing of a list of rows: the words of each in turn, with no end mark
abbrev pub writing : List Row → List ℕ
writing rows = flat_map row_words rows
