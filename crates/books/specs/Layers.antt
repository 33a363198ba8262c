-- What the books with rows of their own mean: a table, and a trial over the book below it. Assumes nothing.
use Rattle.std.specs.Prelude.{◌≡◌, ℕ, ◌-◌, min, List, [], length, take}
use Rattle.bounds.specs.declared.row.Row.{Row}
use Rattle.books.specs.Meaning.{Meaning, bounds_of}

-- a table with these rows: nothing is fixed, and of 1,024 places those without a row are free
abbrev pub table_of : List Row → Meaning
table_of rows = record { fixed = []; added = rows; free = 1024 - length rows }

-- how many bounds a trial has place for: 64, or 65,535 less the bounds below if fewer
abbrev pub trial_places : Meaning → ℕ
trial_places below = min 64 (65535 - length (bounds_of below))

-- as many rows of its own as a trial has place for; it never has more
abbrev pub fitting : Meaning → List Row → List Row
fitting below own = take (trial_places below) own

-- a trial with these rows over the book below: all bounds below are fixed, and those of its own are added
abbrev pub trial_over : Meaning → List Row → Meaning
trial_over below own = record { fixed = bounds_of below; added = own; free = trial_places below - length own }

-- the part that lies below is the same before and after
abbrev pub BelowSame : {S X T : Type 0} → (S → T) → S → X → S → Type 0
BelowSame below before x after = below after ≡ below before
