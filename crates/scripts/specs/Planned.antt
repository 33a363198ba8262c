-- The listing of the lines about a settled plan, and the line that opens it. Assumes nothing.
use Rattle.std.specs.Prelude.{◌≡◌, ℕ, ◌+◌, List, ◌++◌, drop, ℤ, Ok, Err, Result}
use Rattle.delays.specs.Kind.{Kind}
use Rattle.plans.specs.States.{State}
use Rattle.scripts.specs.declared.answer.Answer.{Answer}
use Rattle.scripts.specs.declared.command.Command.{Command}
use Rattle.scripts.specs.declared.listing.Place.{Place}
use Rattle.scripts.specs.Lines.{script_lines}
use Rattle.scripts.specs.Puts.{Puts}
use Rattle.scripts.specs.Room.{ShortTime}
use Rattle.scripts.specs.Sessions.{Session, unopened, new_plan, Obeys, Opens, CommandAnswered, LineAnswered, Listing}
use Rattle.scripts.specs.Texts.{line_text}

-- sessions about plans of the kind: as the plan obeys, so the session is answered
abbrev pub Follows : Kind → (State → Session) → Type 0
Follows k session = (s t : State) (c : Command) (a : Answer) → Obeys k s c a t → CommandAnswered (session s) c a (session t)

-- the answer to a line about a settled plan, and the plan after it
abbrev pub PlanAnswered : Kind → State → List ℕ → Answer → State → Type 0
PlanAnswered k s line a t = (session : State → Session) → Follows k session → LineAnswered (session s) line a (session t)

-- the text is the listing of the lines from the number on, which are about a settled plan
abbrev pub PlanListing : Kind → State → ℕ → List (List ℕ) → List ℕ → Type 0
PlanListing k s number lines text = (session : State → Session) → Follows k session → Listing (session s) number lines text

-- the lines from a place of the script on
abbrev pub lines_at : List ℕ → Place → List (List ℕ)
lines_at script p = script_lines (drop p.at script)

-- the listing of the lines from a place on, which are about a settled plan, is put where it belongs
abbrev pub PlanWritten : Kind → State → List ℕ → Place → List ℕ → ℕ → List ℕ → Type 0
PlanWritten k s script p before n after = (text : List ℕ) × PlanListing k s p.number (lines_at script p) text × Puts before p.written text after n

-- where the plan before is new, the answer is that to the line that opens it
abbrev pub Opening : Kind → State → Answer → ((State → Session) → Session) → Type 0
Opening k s a after = (points : ℤ) → s ≡ new_plan points → (session : State → Session) → Opens k session points a (after session)

-- a new plan is settled, and its answer and the listing of the lines after it are put where they belong; or it is refused, and nothing is written
abbrev pub Planned : Kind → State → List ℕ → Place → List ℕ → List ℕ → Result ℕ Answer → Type 0
Planned k s script p before after (Ok n) = (a : Answer) × (t : State) × (text : List ℕ) × Opening k s a (λ session. session t)
    × PlanListing k t (p.number + 1) (lines_at script p) text × Puts before p.written (line_text p.number a ++ text) after n
Planned k s script p before after (Err a) = Opening k s a (λ session. unopened) × ShortTime a × (after ≡ before)

-- the answer that opens a session and the listing of the lines after it are put where they belong
abbrev pub AllWritten : (Answer → Session → Type 0) → List ℕ → Place → List ℕ → List ℕ → ℕ → Type 0
AllWritten Opened script p before after n = (a : Answer) × (t : Session) × (text : List ℕ) × Opened a t
    × Listing t (p.number + 1) (lines_at script p) text × Puts before p.written (line_text p.number a ++ text) after n

-- a command before there is a plan opens one, and all is written; or it is answered, there is still none, and nothing is written
abbrev pub Begun : Command → List ℕ → Place → List ℕ → List ℕ → Result ℕ Answer → Type 0
Begun c script p before after (Ok n) = AllWritten (CommandAnswered unopened c) script p before after n
Begun c script p before after (Err a) = CommandAnswered unopened c a unopened × ShortTime a × (after ≡ before)

-- and so does a line
abbrev pub LineBegun : List ℕ → List ℕ → Place → List ℕ → List ℕ → Result ℕ Answer → Type 0
LineBegun line script p before after (Ok n) = AllWritten (LineAnswered unopened line) script p before after n
LineBegun line script p before after (Err a) = LineAnswered unopened line a unopened × ShortTime a × (after ≡ before)
