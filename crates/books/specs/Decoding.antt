-- The row that three words say, and the rows in a list of words. A book's meaning is a function of what it has, so its rows are taken out of
-- its words here; what words mean is told by the writing alone, to which `OfBound` ties each row. Assumes nothing.
use Rattle.std.specs.Prelude.{◌≡◌, ℕ, ◌-◌, ◌*◌, ◌/◌, ◌%◌, ◌^◌, ◌<◌, cond, List, map, take, drop, ℤ, pos, negsuc, nat_lt, slice_index}
use Rattle.std.specs.List.{range_with_len}
use Rattle.bounds.specs.declared.row.Row.{Row}
use Rattle.bounds.specs.Range.{Sound}
use Rattle.words.specs.Words.{row_words}

-- the number in the low 30 bits of a word, in two's complement
abbrev pub low_part : ℕ → ℤ
low_part w = cond (nat_lt (w % 2 ^ 30) (2 ^ 29)) (pos (w % 2 ^ 30)) (negsuc (2 ^ 30 - 1 - w % 2 ^ 30))

-- the points and parts in three words, whatever their top bits
abbrev pub taken_apart : List ℕ → Row
taken_apart ws = record {
  left = slice_index ws 0 / 2 ^ 12 % 2 ^ 12;
  right = slice_index ws 0 % 2 ^ 12;
  t = low_part (slice_index ws 1);
  s = low_part (slice_index ws 2);
}

-- the words are those of the bound that they say
abbrev pub OfBound : List ℕ → Type 0
OfBound ws = Sound (taken_apart ws) × (row_words (taken_apart ws) ≡ ws)

-- the three words at number i, and their row; the n rows from number a on
abbrev pub words_at : List ℕ → ℕ → List ℕ
words_at ws i = take 3 (drop (3 * i) ws)

abbrev pub row_at : List ℕ → ℕ → Row
row_at ws i = taken_apart (words_at ws i)

abbrev pub rows_from : List ℕ → ℕ → ℕ → List Row
rows_from ws a n = map (row_at ws) (range_with_len a n)

-- the first n rows are those of bounds
abbrev pub BoundsIn : List ℕ → ℕ → Type 0
BoundsIn ws n = (i : ℕ) → i < n → OfBound (words_at ws i)
