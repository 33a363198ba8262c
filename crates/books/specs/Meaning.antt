-- What a book means, and what adding and cutting make of it. Assumes nothing.
use Rattle.std.specs.Prelude.{ℕ, ◌+◌, ◌-◌, ◌≤◌, List, ◌++◌, length, take}
use Rattle.std.specs.List.{All}
use Rattle.bounds.specs.declared.row.Row.{Row}
use Rattle.bounds.specs.Range.{Sound}

-- a fixed list of bounds, an added list, and a number of free places
pub record Meaning : Type 0 where
  pub fixed : List Row
  pub added : List Row
  pub free : ℕ

-- the bounds of a book, numbered from 0: the fixed list and then the added list
abbrev pub bounds_of : Meaning → List Row
bounds_of m = m.fixed ++ m.added

-- what holds of every book: bounds and free places together are at most 65,535, and each row is that of a bound
pub record Proper (m : Meaning) : Type 0 where
  pub few : length (bounds_of m) + m.free ≤ 65535
  pub sound : All Sound (bounds_of m)

-- some bounds more at the end of the added list, each in a place that was free
abbrev pub with_bounds : Meaning → List Row → Meaning
with_bounds m rows = record { fixed = m.fixed; added = m.added ++ rows; free = m.free - length rows }

-- the first k added bounds alone, the places of the others free
abbrev pub cut_to : Meaning → ℕ → Meaning
cut_to m k = record { fixed = m.fixed; added = take k m.added; free = m.free + (length m.added - k) }
