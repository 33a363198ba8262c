-- Lent words, by counts of their rows: what they mean, as what a book over them opens, and how rows and zero heads are written. Assumes nothing.
use Rattle.std.specs.Prelude.{◌≡◌, ℕ, ◌+◌, ◌-◌, ◌*◌, ◌/◌, ◌≤◌, min, cond, List, [], ◌∷◌, ◌++◌, length, take, drop, Ok, Err, Result, nat_lt}
use Rattle.bounds.specs.declared.row.Row.{Row}
use Rattle.words.specs.declared.fault.WordFault.{WordFault}
use Rattle.words.specs.Words.{row_words}
use Rattle.words.specs.Reading.{Holds, Checked}
use Rattle.books.specs.declared.lent.Counts.{Counts}
use Rattle.books.specs.Meaning.{Meaning}
use Rattle.books.specs.Decoding.{BoundsIn, rows_from}

-- how many rows so many words have place for: those past the first 196,605 words are left alone
abbrev pub row_places : ℕ → ℕ
row_places words = min (words / 3) 65535

-- these counts fit the words: the words have room for the places, of which there are at most 65,535, and each row, fixed or added,
-- has a place and is that of a bound
pub record Fit (ws : List ℕ) (c : Counts) : Type 0 where
  pub room : 3 * c.places ≤ length ws
  pub few : c.places ≤ 65535
  pub held : c.fixed + c.added ≤ c.places
  pub bounds : BoundsIn ws (c.fixed + c.added)

-- what these counts mean over the words: the fixed rows come first, then the added ones; the places after those are free
abbrev pub rows_in : List ℕ → Counts → Meaning
rows_in ws c = record {
  fixed = rows_from ws 0 c.fixed;
  added = rows_from ws c.fixed c.added;
  free = c.places - (c.fixed + c.added);
}

-- what a book over words means when it is opened, by what their check answers: the rows found are fixed and the remaining threes
-- are free; over words that the check refuses there is no bound and no free place
abbrev pub Opens : List ℕ → Result ℕ WordFault → Meaning → Type 0
Opens ws (Ok n) m = Holds m.fixed (take 196605 ws) × (m.added ≡ []) × (length m.fixed ≡ n) × (m.free ≡ row_places (length ws) - n)
Opens ws (Err e) m = m ≡ record { fixed = []; added = []; free = 0 }

-- whichever answer the check has, the book means that
abbrev pub Opened : List ℕ → Meaning → Type 0
Opened ws m = (answer : Result ℕ WordFault) → Checked ws answer → Opens ws answer m

-- the words with these in the place of as many from place i on
abbrev pub replaced : List ℕ → ℕ → List ℕ → List ℕ
replaced ws i new = take i ws ++ (new ++ drop (i + length new) ws)

-- the words with a zero head after n rows, where there is a place for it
abbrev pub ended : ℕ → List ℕ → ℕ → List ℕ
ended places ws n = cond (nat_lt n places) (replaced ws (3 * n) (0 ∷ [])) ws

-- the words with one more row after n rows, and a zero head after it
abbrev pub row_put : ℕ → List ℕ → ℕ → Row → List ℕ
row_put places ws n row = ended places (replaced ws (3 * n) (row_words row)) (n + 1)
