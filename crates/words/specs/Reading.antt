-- What words mean: the rows that they hold, or the first word that breaks its row. A reading is told by the writing
-- alone, so there is no second definition of how a word is taken apart. Assumes nothing.
use Rattle.std.specs.Prelude.{◌≡◌, ℕ, zero, suc, ◌+◌, ◌*◌, ◌%◌, ◌<◌, ◌≤◌, List, ◌++◌, length, take, ℤ, Ok, Err, Result, ◌≢◌, slice_index, slice_index_or}
use Rattle.std.specs.List.{All}
use Rattle.bounds.specs.declared.bound.Bound.{Bound}
use Rattle.bounds.specs.declared.row.Row.{Row}
use Rattle.bounds.specs.Making.{row_of}
use Rattle.bounds.specs.Range.{Part, Sound}
use Rattle.words.specs.declared.fault.WordFault.{WordFault}
use Rattle.words.specs.declared.fault.WordFault.TheVariants.{Length, Word}
use Rattle.words.specs.Words.{head_word, part_word, row_words, writing}

-- the word can be the head of a bound
abbrev pub IsHead : ℕ → Type 0
IsHead w = (left : ℕ) × (right : ℕ) × (left ≤ 4095) × (right ≤ 4095) × (w ≡ head_word left right)

-- the word can hold a bound's part under these two top bits
abbrev pub IsPart : ℕ → ℕ → Type 0
IsPart tag w = (z : ℤ) × Part z × (w ≡ part_word tag z)

-- the word can stand at place k of a bound's row
abbrev pub FitsAt : ℕ → ℕ → Type 0
FitsAt zero w = IsHead w
FitsAt (suc zero) w = IsPart 2 w
FitsAt (suc (suc k)) w = IsPart 3 w

-- the word at place k of the row that begins these words is the first that no bound has there
abbrev pub BreaksAt : List ℕ → ℕ → Type 0
BreaksAt ws k = (k < 3) × ((j : ℕ) → j < k → FitsAt j (slice_index ws j)) × (¬ FitsAt k (slice_index ws k))

-- the answer to three words: the bound that has them, or the place of the first that breaks the row
abbrev pub BoundRead : List ℕ → Result Bound WordFault → Type 0
BoundRead ws (Ok b) = row_words (row_of b) ≡ ws
BoundRead ws (Err (Length n)) = ⊥
BoundRead ws (Err (Word k)) = BreaksAt ws k

-- the same answer, where the first of the three words is at this place
abbrev pub RowRead : ℕ → List ℕ → Result Bound WordFault → Type 0
RowRead first ws (Ok b) = BoundRead ws (Ok b)
RowRead first ws (Err (Length n)) = ⊥
RowRead first ws (Err (Word p)) = (k : ℕ) × (p ≡ first + k) × BoundRead ws (Err (Word k))

-- the words hold just these rows: they begin with the rows' writing, and then comes no word or a zero head
pub record Holds (rows : List Row) (ws : List ℕ) : Type 0 where
  pub sound : All Sound rows
  pub after : List ℕ
  pub cut : ws ≡ writing rows ++ after
  pub ends : slice_index_or after 0 0 ≡ 0

-- after some rows comes one that does not end them, and the word at place p is the first that breaks it
pub record Breaks (ws : List ℕ) (p : ℕ) : Type 0 where
  pub before : List Row
  pub sound : All Sound before
  pub after : List ℕ
  pub cut : ws ≡ writing before ++ after
  pub begins : slice_index_or after 0 0 ≢ 0
  pub k : ℕ
  pub within : k < length after
  pub breaks : BreaksAt after k
  pub place : p ≡ 3 * length before + k

-- the answer to whole rows of words: how many rows they hold, or where the first broken one breaks
abbrev pub RowsRead : List ℕ → Result ℕ WordFault → Type 0
RowsRead ws (Ok n) = (rows : List Row) × (length rows ≡ n) × Holds rows ws
RowsRead ws (Err (Length n)) = ⊥
RowsRead ws (Err (Word p)) = Breaks ws p

-- the answer to a buffer: its length where that is no multiple of three, and else that to its first 65,535 rows
abbrev pub Checked : List ℕ → Result ℕ WordFault → Type 0
Checked ws (Ok n) = (length ws % 3 ≡ 0) × RowsRead (take 196605 ws) (Ok n)
Checked ws (Err (Length n)) = (length ws % 3 ≢ 0) × (n ≡ length ws)
Checked ws (Err (Word p)) = (length ws % 3 ≡ 0) × RowsRead (take 196605 ws) (Err (Word p))
