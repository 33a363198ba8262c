-- How lines are counted. Assumes nothing.
use Rattle.std.specs.Prelude.{ℕ, ◌+◌, ◌-◌, ◌^◌, min}
use Rattle.listings.specs.declared.entry.Entry.{Entry}
use Rattle.listings.specs.declared.entry.Entry.TheVariants.{Note, Bound, Refused}
use Rattle.listings.specs.declared.task.Tally.{Tally}

-- one more, up to 2 ^ 64 - 1, where a count stays
abbrev pub up : ℕ → ℕ
up n = min (n + 1) (2 ^ 64 - 1)

-- no line is read yet
abbrev pub none_yet : Tally
none_yet = record { lines = 0; bounds = 0; notes = 0; refused = 0 }

-- each line counts as a line, and as a note, a bound or a refusal
abbrev pub counted : Entry → Tally → Tally
counted Note c = record { lines = up c.lines; bounds = c.bounds; notes = up c.notes; refused = c.refused }
counted (Bound b) c = record { lines = up c.lines; bounds = up c.bounds; notes = c.notes; refused = c.refused }
counted (Refused e) c = record { lines = up c.lines; bounds = c.bounds; notes = c.notes; refused = up c.refused }
