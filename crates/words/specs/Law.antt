-- The law of house words: one writing, one reading, one answer, and the way there and back. Assumes nothing.
use Rattle.std.specs.Prelude.{◌≡◌, ℕ, ◌*◌, ◌≤◌, List, ◌∷◌, ◌++◌, length, take, Ok, Result, slice_index}
use Rattle.std.specs.List.{All}
use Rattle.bounds.specs.declared.row.Row.{Row}
use Rattle.bounds.specs.Range.{Sound}
use Rattle.words.specs.declared.fault.WordFault.{WordFault}
use Rattle.words.specs.Words.{writing}
use Rattle.words.specs.Reading.{Holds, Checked}

-- rows are held by their writing, with or without a zero head and more words after it
abbrev pub WritingHolds : Type 0
WritingHolds = (rows : List Row) → All Sound rows → Holds rows (writing rows) × ((more : List ℕ) → Holds rows (writing rows ++ (0 ∷ more)))

-- words that hold rows begin with the writing of those rows
abbrev pub OneWriting : Type 0
OneWriting = (rows : List Row) (ws : List ℕ) → Holds rows ws → take (3 * length rows) ws ≡ writing rows

-- words hold one list of rows at most
abbrev pub OneReading : Type 0
OneReading = (rows others : List Row) (ws : List ℕ) → Holds rows ws → Holds others ws → rows ≡ others

-- a buffer has one answer
abbrev pub OneAnswer : Type 0
OneAnswer = (ws : List ℕ) (q r : Result ℕ WordFault) → Checked ws q → Checked ws r → q ≡ r

-- the check of the writing of at most 65,535 rows of bounds answers their number
abbrev pub ReadsBack : Type 0
ReadsBack = (rows : List Row) → All Sound rows → length rows ≤ 65535 → Checked (writing rows) (Ok (length rows))

-- words that are accepted are, up to their end, the writing of the rows found: there the words end, or a zero head stands
abbrev pub AcceptedIsWritten : Type 0
AcceptedIsWritten = (ws : List ℕ) (n : ℕ) → Checked ws (Ok n)
    → (rows : List Row) × All Sound rows × (length rows ≡ n) × (n ≤ 65535) × (take (3 * n) ws ≡ writing rows) × (slice_index (take 196605 ws) (3 * n) ≡ 0)

pub record Law : Type 0 where
  pub writing_holds : WritingHolds
  pub one_writing : OneWriting
  pub one_reading : OneReading
  pub one_answer : OneAnswer
  pub reads_back : ReadsBack
  pub accepted_is_written : AcceptedIsWritten
