-- What is printed for a bound is read as that bound. Assumes nothing.
use Rattle.bounds.specs.declared.bound.Bound.{Bound}
use Rattle.bounds.specs.Making.{row_of}
use Rattle.bounds.specs.Text.{row_text}
use Rattle.listings.specs.declared.entry.Entry.TheVariants as entries
use Rattle.listings.specs.declared.task.Task.TheVariants.{Write, Read}
use Rattle.listings.specs.Lines.{EntryOf}
use Rattle.words.specs.Text.{words_text}
use Rattle.words.specs.Words.{row_words}

-- what is printed for a bound is read as that bound: its words, and its four numbers
abbrev pub TextReturns : Type 0
TextReturns = (b : Bound) → EntryOf Read (words_text (row_words (row_of b))) (entries.Bound b) × EntryOf Write (row_text (row_of b)) (entries.Bound b)
