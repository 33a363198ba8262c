-- Of a word book as a whole: what it means, which words its accepted calls leave, and that its words stay those of its bounds. Assumes nothing.
use Rattle.std.specs.Prelude.{◌≡◌, ℕ, ◌+◌, List, length, take, drop, Ok}
use Rattle.bounds.specs.declared.row.Row.{Row}
use Rattle.words.specs.Reading.{Holds, Checked}
use Rattle.books.specs.Meaning.{Meaning, bounds_of}
use Rattle.books.specs.Calls.{Went}
use Rattle.books.specs.Lent.{rows_in, ended, row_put}
use Rattle.books.specs.declared.lent.WordBook.{WordBook}

-- the rows that its counts find in its words
abbrev pub meaning_of : WordBook → Meaning
meaning_of w = rows_in w.words.now w.counts

-- the same words are lent; one row is put in, and then a zero head where there is a place: no other word changes
abbrev pub RowAdded : WordBook → Row → WordBook → Type 0
RowAdded w row v =
    (v.words.ghost_name ≡ w.words.ghost_name) × (v.words.now ≡ row_put w.counts.places w.words.now (w.counts.fixed + w.counts.added) row)

-- the same words are lent, and a zero head is put after the rows that are kept, where there is a place: no other word changes
abbrev pub RowsCut : WordBook → ℕ → WordBook → Type 0
RowsCut w k v = (v.words.ghost_name ≡ w.words.ghost_name) × (v.words.now ≡ ended w.counts.places w.words.now (w.counts.fixed + k))

-- the words ws have become those of the book v: they hold its bounds and no other row, they are as many, and those past the first
-- 196,605 are as they were
pub record Written (ws : List ℕ) (v : WordBook) : Type 0 where
  pub holds : Holds (bounds_of (meaning_of v)) (take 196605 v.words.now)
  pub long : length v.words.now ≡ length ws
  pub beyond : drop 196605 v.words.now ≡ drop 196605 ws

-- whatever calls a book that was opened over accepted words goes through, its words hold its bounds
abbrev pub StaysWritten : List ℕ → WordBook → Type 0
StaysWritten ws w = (n : ℕ) → Checked ws (Ok n) → (v : WordBook) → Went meaning_of RowAdded RowsCut w v → Written ws v
