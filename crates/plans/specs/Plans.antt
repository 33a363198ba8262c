-- What a plan is between two calls, what its calls answer, and what becomes of its book and of the caller's list. Assumes nothing.
use Rattle.std.specs.Prelude.{◌≡◌, ◌≢◌, ℕ, true, List, map, Ok, Err, Result}
use Rattle.std.specs.declared.cmp.Ord as ord
use Rattle.std.specs.declared.cmp.PartialEq as part_eq
use Rattle.std.specs.declared.cmp.PartialOrd as part_ord
use Rattle.bounds.specs.declared.row.Row.{Row}
use Rattle.delays.specs.declared.delay.Delay as delay
use Rattle.delays.specs.Kind.{Kind, Exact}
use Rattle.books.specs.declared.book.Book as book
use Rattle.books.specs.Meaning.{Meaning}
use Rattle.books.specs.Calls.{Adding, Cutting}
use Rattle.plans.specs.declared.fault.PlanFault.{PlanFault}
use Rattle.plans.specs.declared.fault.PlanFault.TheVariants.{Conflict}
use Rattle.plans.specs.Marks.{Mark}
use Rattle.plans.specs.declared.plan.Plan.{Plan}
use Rattle.plans.specs.declared.posted.Posted.{Posted}
use Rattle.plans.specs.declared.posted.Posted.TheVariants.{Covered, Moved}
use Rattle.plans.specs.declared.slip.Slip.{Slip}
use Rattle.plans.specs.Steps.{Step}
use Rattle.plans.specs.Answers.{Call, Answer, settled, covered, moved, time, slip, done, refused}
use Rattle.plans.specs.Conflicts.{ChainWritten}
use Rattle.plans.specs.States.{State}

-- the counts that open marks noted
abbrev pub counts : {X : Type 0} → List (Mark X) → List ℕ
counts marks = map (λ m. m.added) marks

-- A kind comes with the order and the equality of its values.
module _ {D B : Type 0} {d : delay.Ghosts D} {o : ord.Ghosts D} {q : part_eq.Ghosts D} {r : part_ord.Ghosts D} {b : book.Ghosts B} where
  -- what the program's plan is, but for its times
  abbrev pub state_of : Plan D B d o q r b → State
  state_of p = record { book = b.meaning p.book; points = p.points; number = p.number; settled = p.settled; marks = counts p.marks }

-- What the program's results answer.
module _ {k : Kind} where
  -- to a settle: the count, or the fault
  abbrev pub settle_answer : Result ℕ PlanFault → Answer k
  settle_answer (Ok count) = settled count
  settle_answer (Err e) = refused e

  -- to a post: covered, the count, or the fault
  abbrev pub post_answer : Result Posted PlanFault → Answer k
  post_answer (Ok Covered) = covered
  post_answer (Ok (Moved count)) = moved count
  post_answer (Err e) = refused e

  -- to a read: the time that the value means, or the fault
  abbrev pub read_answer : {X : Type 0} → (X → Exact k) → Result X PlanFault → Answer k
  read_answer means (Ok x) = time (means x)
  read_answer means (Err e) = refused e

  -- to a mark: the slip by its number and depth, or the fault
  abbrev pub mark_answer : Result Slip PlanFault → Answer k
  mark_answer (Ok s) = slip s.number s.depth
  mark_answer (Err e) = refused e

  -- to a keep or a back: done, or the fault
  abbrev pub close_answer : {U : Type 0} → Result U PlanFault → Answer k
  close_answer (Ok u) = done
  close_answer (Err e) = refused e

-- the call is refused with the fault, the plan stays, and the fault is no conflict
pub record Refused (k : Kind) (s : State) (call : Call) (fault : PlanFault) : Type 0 where
  pub step : Step k s call (refused fault) s
  pub no_conflict : (length : ℕ) → fault ≢ Conflict length

-- the caller's list after a call that may find a conflict: it begins with the words of a chain, or it is as it was
abbrev pub ChainOrSame : {A : Type 0} (k : Kind) → ℕ → (book posted : List Row) → (before after : List ℕ) → Result A PlanFault → Type 0
ChainOrSame k n book posted before after (Err (Conflict length)) = ChainWritten k n book posted before after length
ChainOrSame k n book posted before after r = after ≡ before

module _ {S : Type 0} (meaning : S → Meaning) where
  -- the book after a post: the bound is added where it was accepted and not covered, and else the book is the very same
  abbrev pub AddedOrSame : (S → Row → S → Type 0) → S → Row → S → Result Posted PlanFault → Type 0
  AddedOrSame adds before row after (Ok Covered) = after ≡ before
  AddedOrSame adds before row after (Ok (Moved count)) = Adding meaning {U = Unit {0}} adds before row after (Ok tt)
  AddedOrSame adds before row after (Err e) = after ≡ before

  -- the book after a back: it is cut where that was accepted, and else it is the very same
  abbrev pub CutOrSame : {U : Type 0} → (S → ℕ → S → Type 0) → S → ℕ → S → Result U PlanFault → Type 0
  CutOrSame cuts before k after (Ok u) = Cutting meaning cuts before k after true
  CutOrSame cuts before k after (Err e) = after ≡ before
