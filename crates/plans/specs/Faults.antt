-- Why a plan refuses: the number, layer and place of each fault, and its words. Assumes nothing.
use Rattle.std.specs.Prelude.{ℕ, List, ◌++◌, codes, decimal}
use Rattle.faults.specs.declared.Fault.{Fault}
use Rattle.faults.specs.declared.Layer.TheVariants.{Plans}
use Rattle.bounds.specs.declared.fault.BoundFault.{BoundFault}
use Rattle.bounds.specs.Faults as bounds
use Rattle.delays.specs.declared.fault.KindFault.{KindFault}
use Rattle.delays.specs.Faults as delays
use Rattle.books.specs.declared.fault.BookFault.{BookFault}
use Rattle.books.specs.Faults as books
use Rattle.plans.specs.declared.fault.PlanFault.{PlanFault}
use Rattle.plans.specs.declared.fault.PlanFault.TheVariants.{Unsettled, SettledAlready, Points, ListShort, Point, Kind}
use Rattle.plans.specs.declared.fault.PlanFault.TheVariants.{Conflict, MarksFull, WrongSlip, Bound, Book}

-- a fault of a layer below as one of plans, carried whole: that of a bound,
abbrev pub of_bound : BoundFault → PlanFault
of_bound e = Bound e

-- that of a kind, which names no place,
abbrev pub of_kind : KindFault → PlanFault
of_kind e = Kind e 0

-- and that of a book
abbrev pub of_book : BookFault → PlanFault
of_book e = Book e

-- a fault that a plan finds itself
abbrev pub of_plan : ℕ → ℕ → Fault
of_plan number place = record { number = number; layer = Plans; place = place }

-- the number, layer and place; those of a layer below are what they are there, but that a place may be named for a kind's
abbrev pub fault_of : PlanFault → Fault
fault_of Unsettled = of_plan 1 0
fault_of SettledAlready = of_plan 2 0
fault_of Points = of_plan 3 0
fault_of ListShort = of_plan 4 0
fault_of (Point place) = of_plan 5 place
fault_of (Kind e place) = record { number = (delays.fault_of e).number; layer = (delays.fault_of e).layer; place = place }
fault_of (Conflict length) = of_plan 8 length
fault_of MarksFull = of_plan 10 0
fault_of WrongSlip = of_plan 11 0
fault_of (Bound e) = bounds.fault_of e
fault_of (Book e) = books.fault_of e

-- the place, where one is named, after the words
abbrev pub with_place : List ℕ → ℕ → List ℕ
with_place words place = words ++ (codes " (place " ++ (decimal place ++ codes ")"))

-- what is wrong, in words
abbrev pub reason_of : PlanFault → List ℕ
reason_of Unsettled = codes "the plan is not settled"
reason_of SettledAlready = codes "the plan is settled already"
reason_of Points = codes "the number of points is not from 1 to 128"
reason_of ListShort = codes "the list is shorter than the number of points"
reason_of (Point place) = with_place (codes "a point is not below the number of points") place
reason_of (Kind e place) = with_place (delays.reason_of e) place
reason_of (Conflict length) = codes "the bounds in force hold a chain of " ++ decimal length
reason_of MarksFull = codes "eight marks are open"
reason_of WrongSlip = codes "the slip is not the plan's present one"
reason_of (Bound e) = bounds.reason_of e
reason_of (Book e) = books.reason_of e
