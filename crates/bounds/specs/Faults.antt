-- The fault of a number that no bound has: its number, layer and place, and its words. Assumes nothing.
use Rattle.std.specs.Prelude.{ℕ, List, codes}
use Rattle.faults.specs.declared.Fault.{Fault}
use Rattle.faults.specs.declared.Layer.TheVariants.{Bounds}
use Rattle.bounds.specs.declared.fault.BoundFault.{BoundFault}
use Rattle.bounds.specs.declared.fault.BoundFault.TheVariants.{LeftPoint, RightPoint, PartT, PartS}

-- the place of the number among left, right, t and s
abbrev pub place_of : BoundFault → ℕ
place_of LeftPoint = 1
place_of RightPoint = 2
place_of PartT = 3
place_of PartS = 4

-- every such fault is number 7 of the layer of bounds
abbrev pub fault_of : BoundFault → Fault
fault_of e = record { number = 7; layer = Bounds; place = place_of e }

-- what is wrong, in words
abbrev pub reason_of : BoundFault → List ℕ
reason_of LeftPoint = codes "the left point is not from 0 to 4095"
reason_of RightPoint = codes "the right point is not from 0 to 4095"
reason_of PartT = codes "t is not from -500000000 to 500000000"
reason_of PartS = codes "s is not from -500000000 to 500000000"
