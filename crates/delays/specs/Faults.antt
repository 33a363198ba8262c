-- The fault of a pair of parts that no delay of the kind has, and when it is told. Assumes nothing.
use Rattle.std.specs.Prelude.{ℕ, List, ℤ, Ok, Err, codes, Result}
use Rattle.faults.specs.declared.Fault.{Fault}
use Rattle.faults.specs.declared.Layer.TheVariants.{Kinds}
use Rattle.delays.specs.declared.fault.KindFault.{KindFault}
use Rattle.delays.specs.declared.fault.KindFault.TheVariants.{Unread as unread}
use Rattle.delays.specs.Kind.{Kind, Exact, Parts, Unread}

-- the fault is number 6 of the layer of kinds, and names no place
abbrev pub fault_of : KindFault → Fault
fault_of unread = record { number = 6; layer = Kinds; place = 0 }

-- what is wrong, in words
abbrev pub reason_of : KindFault → List ℕ
reason_of unread = codes "no delay of the kind has these parts"

-- a pair is read as the delay that has it, and refused where none has
abbrev pub PairRead : {X : Type 0} (k : Kind) → (X → Exact k) → ℤ → ℤ → Result X KindFault → Type 0
PairRead k means t s (Ok v) = Parts k (means v) t s
PairRead k means t s (Err e) = Unread k t s
