-- The calls on a plan, and what they answer. Assumes nothing.
use Rattle.std.specs.Prelude.{ℕ}
use Rattle.bounds.specs.declared.row.Row.{Row}
use Rattle.delays.specs.Kind.{Kind, Exact}
use Rattle.plans.specs.declared.fault.PlanFault.{PlanFault}
use Rattle.plans.specs.declared.fault.PlanFault.TheVariants.{Conflict}

-- a call on a plan that is open, with what its answer depends on besides the plan
pub data Call : Type 0 where
  -- with the length of the caller's list
  settle : (length : ℕ) → Call
  post : (length : ℕ) (bound : Row) → Call
  read : (point : ℕ) → Call
  mark : Call
  -- with the number and the depth of the slip
  keep : (number depth : ℕ) → Call
  back : (number depth : ℕ) → Call

-- what a call answers
pub data Answer (k : Kind) : Type 0 where
  -- settled: how many times are not zero
  settled : (count : ℕ) → Answer k
  -- a bound of the book covers the one posted
  covered : Answer k
  -- posted: how many points have another earliest time than before
  moved : (count : ℕ) → Answer k
  -- the earliest time
  time : (value : Exact k) → Answer k
  -- a slip, with its number and depth
  slip : (number depth : ℕ) → Answer k
  -- kept or taken back
  done : Answer k
  refused : (fault : PlanFault) → Answer k

-- the fault, chains aside: a conflict without the length of its chain
abbrev pub fault_aside : PlanFault → PlanFault
fault_aside (Conflict length) = Conflict 0
fault_aside fault = fault

-- the answer, chains aside
abbrev pub aside : {k : Kind} → Answer k → Answer k
aside (settled count) = settled count
aside covered = covered
aside (moved count) = moved count
aside (time value) = time value
aside (slip number depth) = slip number depth
aside done = done
aside (refused fault) = refused (fault_aside fault)
