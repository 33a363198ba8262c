-- What a script's lines are answered, line by line, by the calls on its plan. Assumes nothing.
use Rattle.std.specs.Prelude.{◌≡◌, ℕ, ◌+◌, ◌⊎◌, true, List, [], ◌∷◌, ◌++◌, ℤ, pos, negsuc, Ok, Err}
use Rattle.bounds.specs.declared.bound.Bound.{Bound}
use Rattle.bounds.specs.declared.row.Row.{Row}
use Rattle.bounds.specs.Making.{row_of}
use Rattle.delays.specs.Kind.{Kind}
use Rattle.delays.specs.Ticks.{ticks_kind}
use Rattle.delays.specs.Ranked.{ranked_kind}
use Rattle.books.specs.Layers.{table_of}
use Rattle.plans.specs.declared.fault.PlanFault.{PlanFault}
use Rattle.plans.specs.declared.fault.PlanFault.TheVariants.{Unsettled, SettledAlready, Conflict}
use Rattle.plans.specs.Answers as plans
use Rattle.plans.specs.States.{State, opened}
use Rattle.plans.specs.Steps.{Ending, Step}
use Rattle.scripts.specs.declared.fault.ScriptFault.{ScriptFault}
use Rattle.scripts.specs.declared.fault.ScriptFault.TheVariants.{Plan}
use Rattle.scripts.specs.declared.command.Command.{Command}
use Rattle.scripts.specs.declared.command.Command.TheVariants.{Ticks, Ranked, Post, Try, Read}
use Rattle.scripts.specs.declared.answer.Answer.{Answer}
use Rattle.scripts.specs.declared.answer.Answer.TheVariants as answers
use Rattle.scripts.specs.Faults.{fault_of}
use Rattle.scripts.specs.Commands.{CommandOf}
use Rattle.scripts.specs.Texts.{line_text}

-- a session has no settled plan yet, or one in ticks, or a ranked one
pub data Session : Type 0 where
  unopened : Session
  in_ticks : State → Session
  in_ranked : State → Session

-- a fault is printed by its number, layer and place; a conflict has a letter of its own
abbrev pub of_fault : PlanFault → Answer
of_fault (Conflict length) = answers.Conflict
of_fault fault = answers.Refused (fault_of (Plan fault))

-- the plan's answer is told so by a line that is about the point p
abbrev pub Told : (k : Kind) → ℕ → plans.Answer k → Answer → Type 0
Told k p (plans.settled count) a = a ≡ answers.Settled count
Told k p plans.covered a = a ≡ answers.Covered
Told k p (plans.moved count) a = a ≡ answers.Moved count
Told k p (plans.time x) a = a ≡ answers.Time p (k.t x) (k.s x)
Told k p (plans.slip number depth) a = ⊥
Told k p plans.done a = ⊥
Told k p (plans.refused e) a = a ≡ of_fault e

-- the caller's list of every settle and post of a script: it has room for each chain
abbrev pub list_length : ℕ
list_length = 128

-- a try of the bound, and the plan after it: a mark, the post, and a back
abbrev pub Tried : (k : Kind) → State → Row → Ending k
Tried k s b x t = (u v : State) × (number depth : ℕ)
    × Step k s plans.mark (plans.slip number depth) u × Step k u (plans.post list_length b) x v × Step k v (plans.back number depth) plans.done t

-- the answer to a line about a plan that is settled, and the plan after it
abbrev pub Obeys : (k : Kind) → State → Command → Answer → State → Type 0
Obeys k s (Ticks n) a t = (a ≡ of_fault SettledAlready) × (t ≡ s)
Obeys k s (Ranked n) a t = (a ≡ of_fault SettledAlready) × (t ≡ s)
Obeys k s (Post b) a t = (x : plans.Answer k) × Step k s (plans.post list_length (row_of b)) x t × Told k 0 x a
Obeys k s (Try b) a t = (x : plans.Answer k) × Tried k s (row_of b) x t × Told k 0 x a
Obeys k s (Read p) a t = (x : plans.Answer k) × Step k s (plans.read p) x t × Told k p x a

-- the number of points that a number stands for: none can be below zero, and 0 is refused as well
abbrev pub points_of : ℤ → ℕ
points_of (pos n) = n
points_of (negsuc n) = 0

-- a script's new plan of so many points: over an empty table, and unsettled
abbrev pub new_plan : ℤ → State
new_plan n = opened (table_of []) (points_of n) 0

-- the settle of a new plan, and the plan after it
abbrev pub SettledNew : (k : Kind) → ℤ → Ending k
SettledNew k n = Step k (new_plan n) (plans.settle list_length)

-- a new plan is settled; where it is refused the session stays without one
abbrev pub Opens : (k : Kind) → (State → Session) → ℤ → Answer → Session → Type 0
Opens k session n a after = (x : plans.Answer k) × (t : State) × SettledNew k n x t × Told k 0 x a
    × (((t.settled ≡ true) × (after ≡ session t)) ⊎ ((t.settled ≡ true → ⊥) × (after ≡ unopened)))

-- the answer to a command, and the session after it
abbrev pub CommandAnswered : Session → Command → Answer → Session → Type 0
CommandAnswered unopened (Ticks n) a after = Opens ticks_kind in_ticks n a after
CommandAnswered unopened (Ranked n) a after = Opens ranked_kind in_ranked n a after
CommandAnswered unopened (Post b) a after = (a ≡ of_fault Unsettled) × (after ≡ unopened)
CommandAnswered unopened (Try b) a after = (a ≡ of_fault Unsettled) × (after ≡ unopened)
CommandAnswered unopened (Read p) a after = (a ≡ of_fault Unsettled) × (after ≡ unopened)
CommandAnswered (in_ticks s) c a after = (t : State) × Obeys ticks_kind s c a t × (after ≡ in_ticks t)
CommandAnswered (in_ranked s) c a after = (t : State) × Obeys ranked_kind s c a t × (after ≡ in_ranked t)

-- the answer to a line, and the session after it: that to its command; or, where it says none, the fault, and nothing is changed
abbrev pub LineAnswered : Session → List ℕ → Answer → Session → Type 0
LineAnswered s line a after =
    ((c : Command) × CommandOf line (Ok c) × CommandAnswered s c a after)
    ⊎ ((e : ScriptFault) × CommandOf line (Err e) × (a ≡ answers.Refused (fault_of e)) × (after ≡ s))

-- the text is the listing of the lines from the number on, in the session
abbrev pub Listing : Session → ℕ → List (List ℕ) → List ℕ → Type 0
Listing s number [] text = text ≡ []
Listing s number (line ∷ lines) text = (a : Answer) × (t : Session) × (rest : List ℕ) × LineAnswered s line a t × Listing t (number + 1) lines rest
    × (text ≡ line_text number a ++ rest)

-- a try leaves the session as it was, and is answered as the post would have been in its place
abbrev pub TriesLeave : Type 0
TriesLeave = (s t : Session) (b : Bound) (a : Answer) → CommandAnswered s (Try b) a t → (t ≡ s) × ((u : Session) × CommandAnswered s (Post b) a u)
