-- Why a script is refused: fault 14, or the fault of a layer below, carried whole. Assumes nothing.
use Rattle.std.specs.Prelude.{ℕ, List, codes}
use Rattle.faults.specs.declared.Fault.{Fault}
use Rattle.faults.specs.declared.Layer.TheVariants.{Lines}
use Rattle.bounds.specs.declared.fault.BoundFault.{BoundFault}
use Rattle.bounds.specs.Faults as bounds
use Rattle.lines.specs.declared.fault.LineFault.{LineFault}
use Rattle.lines.specs.Faults as lines
use Rattle.plans.specs.declared.fault.PlanFault.{PlanFault}
use Rattle.plans.specs.Faults as plans
use Rattle.scripts.specs.declared.fault.ScriptFault.{ScriptFault}
use Rattle.scripts.specs.declared.fault.ScriptFault.TheVariants.{Room, Line, Bound, Plan}

-- a fault of a layer below as one of scripts, carried whole
abbrev pub of_line : LineFault → ScriptFault
of_line e = Line e

abbrev pub of_bound : BoundFault → ScriptFault
of_bound e = Bound e

abbrev pub of_plan : PlanFault → ScriptFault
of_plan e = Plan e

-- the number, layer and place
abbrev pub fault_of : ScriptFault → Fault
fault_of Room = record { number = 14; layer = Lines; place = 0 }
fault_of (Line e) = lines.fault_of e
fault_of (Bound e) = bounds.fault_of e
fault_of (Plan e) = plans.fault_of e

-- what is wrong, in words
abbrev pub reason_of : ScriptFault → List ℕ
reason_of Room = codes "the script is too long, or the output too short"
reason_of (Line e) = lines.reason_of e
reason_of (Bound e) = bounds.reason_of e
reason_of (Plan e) = plans.reason_of e
