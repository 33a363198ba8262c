-- What a line of a script says: a letter and its decimal numbers, one space before each. Assumes nothing.
use Rattle.std.specs.Prelude.{◌≡◌, ℕ, ◌⊎◌, List, [], ◌∷◌, ℤ, pos, Ok, Err, Result}
use Rattle.bounds.specs.declared.bound.Bound.{Bound}
use Rattle.bounds.specs.declared.fault.BoundFault.{BoundFault}
use Rattle.bounds.specs.declared.fault.BoundFault.TheVariants.{LeftPoint}
use Rattle.bounds.specs.Range.{Point}
use Rattle.bounds.specs.Making.{Made}
use Rattle.lines.specs.declared.fault.LineFault.TheVariants.{Unreadable}
use Rattle.lines.specs.Decimal.{number}
use Rattle.lines.specs.Fields.{fields}
use Rattle.lines.specs.Reading.{readings}
use Rattle.scripts.specs.declared.fault.ScriptFault.{ScriptFault}
use Rattle.scripts.specs.declared.fault.ScriptFault.TheVariants.{Line, Bound as BoundRefused}
use Rattle.scripts.specs.declared.command.Command.{Command}
use Rattle.scripts.specs.declared.command.Command.TheVariants.{Ticks, Ranked, Post, Try, Read}

-- the letters of commands, as bytes: T, R, P, Q and W
abbrev pub letter_T : ℕ
letter_T = 84

abbrev pub letter_R : ℕ
letter_R = 82

abbrev pub letter_P : ℕ
letter_P = 80

abbrev pub letter_Q : ℕ
letter_Q = 81

abbrev pub letter_W : ℕ
letter_W = 87

-- a field that is one byte, the letter
abbrev pub Is : List ℕ → ℕ → Type 0
Is field letter = field ≡ letter ∷ []

-- a bound of four numbers makes the command, or is refused
abbrev pub BoundCommand : (Bound → Command) → List ℤ → Result Command ScriptFault → Type 0
BoundCommand make (left ∷ (right ∷ (t ∷ (s ∷ [])))) (Ok c) = (b : Bound) × Made left right t s (Ok b) × (c ≡ make b)
BoundCommand make (left ∷ (right ∷ (t ∷ (s ∷ [])))) (Err e) = (f : BoundFault) × Made left right t s (Err f) × (e ≡ BoundRefused f)
BoundCommand make numbers r = ⊥

-- one number makes a command that opens a plan
abbrev pub OpenCommand : (ℤ → Command) → List ℤ → Result Command ScriptFault → Type 0
OpenCommand make (n ∷ []) r = r ≡ Ok (make n)
OpenCommand make numbers r = ⊥

-- one number from 0 to 4,095 makes a command that reads a point; another is refused as a point that no bound has
abbrev pub ReadCommand : List ℤ → Result Command ScriptFault → Type 0
ReadCommand (n ∷ []) (Ok c) = (p : ℕ) × Point n × (n ≡ pos p) × (c ≡ Read p)
ReadCommand (n ∷ []) (Err e) = (Point n → ⊥) × (e ≡ BoundRefused LeftPoint)
ReadCommand numbers r = ⊥

-- just so many numbers are in the fields from place 1 on, of which the command is made; or the first that is missing, bad or extra is told
abbrev pub Numbers : ℕ → (List ℤ → Result Command ScriptFault → Type 0) → List (List ℕ) → Result Command ScriptFault → Type 0
Numbers count makes rest r =
    ((numbers : List ℤ) × (readings number 1 count rest ≡ Ok numbers) × makes numbers r)
    ⊎ ((place : ℕ) × (readings number 1 count rest ≡ Err place) × (r ≡ Err (Line (Unreadable place))))

-- the field 0 is a letter of a command, and then come its numbers; another is refused at place 0
abbrev pub FieldsSay : List (List ℕ) → Result Command ScriptFault → Type 0
FieldsSay [] r = ⊥
FieldsSay (first ∷ rest) r =
    (Is first letter_T × Numbers 1 (OpenCommand Ticks) rest r)
    ⊎ ((Is first letter_R × Numbers 1 (OpenCommand Ranked) rest r)
    ⊎ ((Is first letter_P × Numbers 4 (BoundCommand Post) rest r)
    ⊎ ((Is first letter_Q × Numbers 4 (BoundCommand Try) rest r)
    ⊎ ((Is first letter_W × Numbers 1 ReadCommand rest r)
    ⊎ ((Is first letter_T → ⊥) × (Is first letter_R → ⊥) × (Is first letter_P → ⊥) × (Is first letter_Q → ⊥) × (Is first letter_W → ⊥)
    × (r ≡ Err (Line (Unreadable 0))))))))

-- the command that the line says, or why it says none
abbrev pub CommandOf : List ℕ → Result Command ScriptFault → Type 0
CommandOf line r = FieldsSay (fields line) r
