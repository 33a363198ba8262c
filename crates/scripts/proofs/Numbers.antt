-- The numbers of a line's fields make its command. Assumes nothing.
use Rattle.std.proofs.Common.{◌≡◌, ℕ, List, [], ◌∷◌, length, ℤ, pos, Ok, Err, Result, slice_index_or, inr, refl, ap, sym, subst, ◌∙◌, arith}
use Rattle.bounds.specs.declared.bound.Bound.{Bound as BoundType}
use Rattle.bounds.specs.declared.fault.BoundFault.{BoundFault}
use Rattle.bounds.specs.Making.{Made}
use Rattle.lines.specs.declared.fault.LineFault.{LineFault}
use Rattle.lines.specs.declared.fault.LineFault.TheVariants.{Unreadable}
use Rattle.lines.specs.Decimal.{number}
use Rattle.lines.specs.Reading.{readings, listed}
use Rattle.scripts.specs.declared.command.Command.{Command}
use Rattle.scripts.specs.declared.fault.ScriptFault.{ScriptFault}
use Rattle.scripts.specs.declared.fault.ScriptFault.TheVariants.{Line, Bound}
use Rattle.scripts.specs.Commands.{BoundCommand, Numbers}

-- a field of one byte, before the others
pub one_byte : (first : List ℕ) (letter : ℕ) (rest whole fs : List (List ℕ)) → length first ≡ 1 → letter ≡ slice_index_or first 0 0
    → whole ≡ first ∷ rest → whole ≡ fs → (letter ∷ []) ∷ rest ≡ fs
one_byte [] letter rest whole fs one at is same = absurd (omega arith)
one_byte (b ∷ []) letter rest whole fs one at is same = ap (λ x. (x ∷ []) ∷ rest) at ∙ (sym is ∙ same)
one_byte (b ∷ (d ∷ bs)) letter rest whole fs one at is same = absurd (omega arith)

-- numbers that can't be read make no command, whatever they would make
pub unreadable : (count : ℕ) (makes : List ℤ → Result Command ScriptFault → Type 0) (fs : List (List ℕ)) (e : LineFault) (r : Result Command ScriptFault)
    → readings number 1 count fs ≡ listed (Err e) → r ≡ Err (Line e) → Numbers count makes fs r
unreadable count makes fs (Unreadable place) r none is = inr (place, none, is)

-- four numbers that make a bound make the command
pub four_make : (make : BoundType → Command) (ns : List ℤ) (b : BoundType) → length ns ≡ 4
    → Made (slice_index_or ns 0 (pos 0)) (slice_index_or ns 1 (pos 0)) (slice_index_or ns 2 (pos 0)) (slice_index_or ns 3 (pos 0)) (Ok b)
    → BoundCommand make ns (Ok (make b))
four_make make [] b four made = omega arith
four_make make (left ∷ []) b four made = omega arith
four_make make (left ∷ (right ∷ [])) b four made = omega arith
four_make make (left ∷ (right ∷ (t ∷ []))) b four made = omega arith
four_make make (left ∷ (right ∷ (t ∷ (s ∷ [])))) b four made = (b, made, refl)
four_make make (left ∷ (right ∷ (t ∷ (s ∷ (n ∷ ns))))) b four made = omega arith

-- and those of which one is out of range are refused
pub four_refuse : (make : BoundType → Command) (ns : List ℤ) (e : BoundFault) (r : Result Command ScriptFault) → length ns ≡ 4 → r ≡ Err (Bound e)
    → Made (slice_index_or ns 0 (pos 0)) (slice_index_or ns 1 (pos 0)) (slice_index_or ns 2 (pos 0)) (slice_index_or ns 3 (pos 0)) (Err e)
    → BoundCommand make ns r
four_refuse make [] e r four is made = omega arith
four_refuse make (left ∷ []) e r four is made = omega arith
four_refuse make (left ∷ (right ∷ [])) e r four is made = omega arith
four_refuse make (left ∷ (right ∷ (t ∷ []))) e r four is made = omega arith
four_refuse make (left ∷ (right ∷ (t ∷ (s ∷ [])))) e r four is made =
    subst (BoundCommand make (left ∷ (right ∷ (t ∷ (s ∷ []))))) (sym is) (e, made, refl)
four_refuse make (left ∷ (right ∷ (t ∷ (s ∷ (n ∷ ns))))) e r four is made = omega arith
