-- What a refusal of a line tells: the field that can't be read. Assumes nothing.
use Rattle.std.specs.Prelude.{ℕ, List, codes}
use Rattle.faults.specs.declared.Fault.{Fault}
use Rattle.faults.specs.declared.Layer.TheVariants.{Lines}
use Rattle.lines.specs.declared.fault.LineFault.{LineFault}
use Rattle.lines.specs.declared.fault.LineFault.TheVariants.{Unreadable}

-- the place of the field that can't be read
abbrev pub place_of : LineFault → ℕ
place_of (Unreadable p) = p

-- the refusal as every layer tells it: number 12, the layer of lines, and the field's place
abbrev pub fault_of : LineFault → Fault
fault_of e = record { number = 12; layer = Lines; place = place_of e }

-- what is wrong, in words
abbrev pub reason_of : LineFault → List ℕ
reason_of (Unreadable p) = codes "a field is missing, unreadable or extra"
