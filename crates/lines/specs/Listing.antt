-- What the fields of a listing's lines read as, from place 1 on. Assumes nothing.
use Rattle.std.specs.Prelude.{ℕ, List, ℤ, Result}
use Rattle.lines.specs.declared.fault.LineFault.{LineFault}
use Rattle.lines.specs.Decimal.{number}
use Rattle.lines.specs.Hex.{word}
use Rattle.lines.specs.Reading.{HoldsJust}

-- the fields are just the four numbers of the answer, an array, or the one that it refuses is the first at fault
abbrev pub FourNumbers : List (List ℕ) → Result (List ℤ) LineFault → Type 0
FourNumbers = HoldsJust number 4

-- the fields are just the three words of the answer, an array, or the one that it refuses is the first at fault
abbrev pub ThreeWords : List (List ℕ) → Result (List ℕ) LineFault → Type 0
ThreeWords = HoldsJust word 3
