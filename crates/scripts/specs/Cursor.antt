-- What stands at a place of a script, up to the end of its line, and what is read there. Assumes nothing.
use Rattle.std.specs.Prelude.{◌≡◌, ℕ, suc, ◌+◌, ◌^◌, ◌<◌, ◌≤◌, cond, ◌⊎◌, List, [], ◌∷◌, ◌++◌, length, drop, ℤ, Some, None, Ok, Err, Option, Result, ◌==◌}
use Rattle.lines.specs.declared.fault.LineFault.TheVariants.{Unreadable}
use Rattle.lines.specs.Digits.{digit, digits_value}
use Rattle.lines.specs.Decimal.{number}
use Rattle.lines.specs.Fields.{fields}
use Rattle.lines.specs.Reading.{with_first, readings}
use Rattle.scripts.specs.declared.command.Command.{Command}
use Rattle.scripts.specs.declared.fault.ScriptFault.{ScriptFault}
use Rattle.scripts.specs.declared.fault.ScriptFault.TheVariants.{Line}
use Rattle.scripts.specs.declared.reader.Read.{Read}

-- bytes up to a line feed, which is byte 10
abbrev pub until_feed : List ℕ → List ℕ
until_feed [] = []
until_feed (b ∷ bs) = cond (b == 10) [] (b ∷ until_feed bs)

-- what is left of the line at a place
abbrev pub line_from : List ℕ → ℕ → List ℕ
line_from script at = until_feed (drop at script)

-- where the line ends that the place is in
abbrev pub line_end : List ℕ → ℕ → ℕ
line_end script at = at + length (line_from script at)

-- what the fields hold that come after the field at place p, where this is left of the line: a field that ends at no space is bad itself
abbrev pub readings_after : ℕ → ℕ → List ℕ → Result (List ℤ) ℕ
readings_after p k [] = readings number (suc p) k []
readings_after p k (b ∷ bs) = cond (b == 32) (readings number (suc p) k (fields bs)) (Err p)

-- the line goes on with no digit
abbrev pub NoDigit : List ℕ → Type 0
NoDigit left = (b : ℕ) (bs : List ℕ) → left ≡ b ∷ bs → digit 10 b ≡ None

-- up to ten digits stand there, all that there are or ten
pub record DigitsAt (script : List ℕ) (first value end : ℕ) : Type 0 where
  pub digits : List ℕ
  pub line : line_from script first ≡ digits ++ line_from script end
  pub ends : end ≡ first + length digits
  pub few : length digits ≤ 10
  pub reads : digits_value 10 digits ≡ Some value
  pub small : value < 10 ^ 10
  pub stops : (length digits ≡ 10) ⊎ NoDigit (line_from script end)

-- the field at the place is read as the number, and the fields after it are read from the end on; or it is bad
abbrev pub NumberAt : List ℕ → ℕ → Option Read → Type 0
NumberAt script first (Some r) =
    (line_end script r.end ≡ line_end script first)
    × ((p k : ℕ) → readings number p (suc k) (fields (line_from script first)) ≡ with_first p (Some r.value) (readings_after p k (line_from script r.end)))
NumberAt script first None = (p k : ℕ) → readings number p (suc k) (fields (line_from script first)) ≡ Err p

-- the same of the field after the one at place p, which ends here; where there is none, or either is bad, its place is told
abbrev pub NextAt : List ℕ → ℕ → ℕ → Result Read ScriptFault → Type 0
NextAt script at p (Ok r) =
    (line_end script r.end ≡ line_end script at)
    × ((k : ℕ) → readings_after p (suc k) (line_from script at) ≡ with_first (suc p) (Some r.value) (readings_after (suc p) k (line_from script r.end)))
NextAt script at p (Err e) = (q : ℕ) × (e ≡ Line (Unreadable q)) × ((k : ℕ) → readings_after p (suc k) (line_from script at) ≡ Err q)

-- the line ends with the field at place p; or a field is bad or extra
abbrev pub LastAt : List ℕ → ℕ → ℕ → Result (Unit {0}) ScriptFault → Type 0
LastAt script at p (Ok _) = line_from script at ≡ []
LastAt script at p (Err e) = (q : ℕ) × (e ≡ Line (Unreadable q)) × (readings_after p 0 (line_from script at) ≡ Err q)

-- just so many numbers are in the fields after the letter, and the line ends; or the first field at fault is told
abbrev pub NumbersAt : ℕ → List ℕ → ℕ → Result (List ℤ × ℕ) ScriptFault → Type 0
NumbersAt count script at (Ok (numbers, end)) = (readings_after 0 count (line_from script at) ≡ Ok numbers) × (end ≡ line_end script at)
NumbersAt count script at (Err e) = (q : ℕ) × (readings_after 0 count (line_from script at) ≡ Err q) × (e ≡ Line (Unreadable q))

-- of just so many numbers after the letter a command is made; or the first field at fault is told
abbrev pub NumbersAfter : ℕ → (List ℤ → Result Command ScriptFault → Type 0) → List ℕ → Result Command ScriptFault → Type 0
NumbersAfter count makes left r =
    ((numbers : List ℤ) × (readings_after 0 count left ≡ Ok numbers) × makes numbers r)
    ⊎ ((q : ℕ) × (readings_after 0 count left ≡ Err q) × (r ≡ Err (Line (Unreadable q))))
