-- What a line of a listing holds: a note, a bound, or neither, and why. Assumes nothing.
use Rattle.std.specs.Prelude.{◌≡◌, ℕ, List, ℤ, pos, Ok, Err, Result, slice_index, slice_index_or}
use Rattle.bounds.specs.declared.bound.Bound.{Bound as BoundT}
use Rattle.bounds.specs.declared.fault.BoundFault.{BoundFault}
use Rattle.bounds.specs.Making.{Made, row_of}
use Rattle.lines.specs.Fields.{fields}
use Rattle.lines.specs.Listing.{FourNumbers, ThreeWords}
use Rattle.words.specs.Words.{row_words}
use Rattle.words.specs.Reading.{BoundRead}
use Rattle.listings.specs.declared.entry.Entry.{Entry}
use Rattle.listings.specs.declared.entry.Entry.TheVariants as entries
use Rattle.listings.specs.declared.fault.ListingFault.{ListingFault}
use Rattle.listings.specs.declared.fault.ListingFault.TheVariants.{Line, Bound, Word}
use Rattle.listings.specs.declared.task.Task.{Task}
use Rattle.listings.specs.declared.task.Task.TheVariants.{Write, Read, RoundTrip}

-- the number at a place of a list of four, from place 0 on
abbrev pub at : List ℤ → ℕ → ℤ
at ns k = slice_index_or ns k (pos 0)

-- what four numbers make
abbrev pub FourMake : List ℤ → Result BoundT BoundFault → Type 0
FourMake ns r = Made (at ns 0) (at ns 1) (at ns 2) (at ns 3) r

-- the bound of four decimal numbers: they make it, or one is unreadable, or one is out of range
abbrev pub BoundLine : List ℕ → Result BoundT ListingFault → Type 0
BoundLine line (Ok b) = (ns : List ℤ) × FourNumbers (fields line) (Ok ns) × FourMake ns (Ok b)
BoundLine line (Err (Line e)) = FourNumbers (fields line) (Err e)
BoundLine line (Err (Bound e)) = (ns : List ℤ) × FourNumbers (fields line) (Ok ns) × FourMake ns (Err e)
BoundLine line (Err (Word e)) = ⊥

-- the bound of three words: they are its words, or one is unreadable, or one breaks the row
abbrev pub WordsLine : List ℕ → Result BoundT ListingFault → Type 0
WordsLine line (Ok b) = ThreeWords (fields line) (Ok (row_words (row_of b)))
WordsLine line (Err (Line e)) = ThreeWords (fields line) (Err e)
WordsLine line (Err (Bound e)) = ⊥
WordsLine line (Err (Word e)) = (ws : List ℕ) × ThreeWords (fields line) (Ok ws) × BoundRead ws (Err e)

-- the form that the task reads: words to read them, and else four numbers
abbrev pub LineOf : Task → List ℕ → Result BoundT ListingFault → Type 0
LineOf Write line r = BoundLine line r
LineOf Read line r = WordsLine line r
LineOf RoundTrip line r = BoundLine line r

-- a note begins with `#`, which is byte 35
abbrev pub IsNote : List ℕ → Type 0
IsNote line = slice_index line 0 ≡ 35

-- a line is a note, or it holds a bound, or it is refused
abbrev pub EntryOf : Task → List ℕ → Entry → Type 0
EntryOf task line entries.Note = IsNote line
EntryOf task line (entries.Bound b) = (IsNote line → ⊥) × LineOf task line (Ok b)
EntryOf task line (entries.Refused e) = (IsNote line → ⊥) × LineOf task line (Err e)
