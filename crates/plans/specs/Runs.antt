-- Runs of calls on one plan, and the law of all runs. Assumes nothing.
use Rattle.std.specs.Prelude.{◌≡◌, ℕ, ◌<◌, ◌≤◌, true, false, List, [], ◌∷◌, ◌++◌, map, length, All}
use Rattle.bounds.specs.declared.row.Row.{Row}
use Rattle.delays.specs.Kind.{Kind, Exact}
use Rattle.network.specs.Bounds.{Bounds}
use Rattle.network.specs.Chains.{ChainIn}
use Rattle.plans.specs.declared.fault.PlanFault.TheVariants.{Conflict}
use Rattle.plans.specs.Rows.{force, Fit, Solvable, Least}
use Rattle.plans.specs.Answers.{Call, settle, post, read, mark, keep, back, Answer, settled, covered, moved, time, slip, done, refused, aside}
use Rattle.plans.specs.States.{State, rows}
use Rattle.plans.specs.Steps.{Step}

-- a call with its answer
abbrev pub Said : Kind → Type 0
Said k = Call × Answer k

-- the calls, with their answers, lead from one plan to the other
pub data Run (k : Kind) : State → List (Said k) → State → Type 0 where
  rests : {s : State} → Run k s [] s
  goes : {s t u : State} {c : Call} {a : Answer k} {rest : List (Said k)} → Step k s c a t → Run k t rest u → Run k s ((c, a) ∷ rest) u

-- the call alone
abbrev pub call_of : {k : Kind} → Said k → Call
call_of x = x.0

-- the answer, chains aside
abbrev pub answer_of : {k : Kind} → Said k → Answer k
answer_of x = aside x.1

-- as opening gives it: unsettled, with no mark open
pub record Opened (s : State) : Type 0 where
  pub unsettled : s.settled ≡ false
  pub unmarked : s.marks ≡ []

-- The law of all runs, part by part. Each says what holds of every run from s on.

-- Answers are determined: the same calls on the same plan get the same answers, chains aside, and lead to the same plan.
abbrev pub RunsAgree : Kind → State → Type 0
RunsAgree k s = (t u : State) (xs ys : List (Said k)) → Run k s xs t → Run k s ys u → map call_of xs ≡ map call_of ys
    → (map answer_of xs ≡ map answer_of ys) × (t ≡ u)

-- no check before that for a cover or a conflict refuses the call, and the bounds in question are then these
abbrev pub Tries : Kind → State → Call → List Row → Type 0
Tries k s (settle length) bounds =
    (s.settled ≡ false) × (0 < s.points) × (s.points ≤ 128) × (s.points ≤ length) × All (Fit k s.points) (rows s) × (bounds ≡ rows s)
Tries k s (post length b) bounds = (s.settled ≡ true) × Fit k s.points b × (s.points ≤ length) × (bounds ≡ rows s ++ b ∷ [])
Tries k s (read p) bounds = ⊥
Tries k s mark bounds = ⊥
Tries k s (keep number d) bounds = ⊥
Tries k s (back number d) bounds = ⊥

-- the answer is a conflict
abbrev pub IsConflict : {k : Kind} → Answer k → Type 0
IsConflict a = (length : ℕ) × (a ≡ refused (Conflict length))

-- the answer to a call that puts the bounds in question
pub record Judged (k : Kind) (n : ℕ) (bounds : List Row) (a : Answer k) : Type 0 where
  -- a conflict exactly when no assignment meets the bounds in force
  pub refuted : IsConflict a → Solvable k n bounds → ⊥
  pub reported : (Solvable k n bounds → ⊥) → IsConflict a
  -- and its place is the length of a chain
  pub chain : (c : ℕ) → a ≡ refused (Conflict c) → (row : Bounds k) × ChainIn k (force k n bounds) row × (length row ≡ c)

-- A settle or a post that passes its earlier checks is refused as a conflict exactly when no assignment meets the bounds in force
-- and the one posted.
abbrev pub ConflictsTrue : Kind → State → Type 0
ConflictsTrue k s = (t u : State) (xs : List (Said k)) (c : Call) (a : Answer k) (bounds : List Row) → Run k s xs t → Tries k t c bounds → Step k t c a u
    → Judged k t.points bounds a

-- the times that reading gives of a settled plan: an assignment that meets the bounds in force, and each is the least of any such
pub record ReadOut (k : Kind) (t : State) : Type 0 where
  pub times : ℕ → Exact k
  pub least : Least k t.points (rows t) times
  pub reads : (p : ℕ) (a : Answer k) (u : State) → p < t.points → Step k t (read p) a u → a ≡ time (times p)

-- Reading a settled plan gives the least times.
abbrev pub ReadsLeast : Kind → State → Type 0
ReadsLeast k s = (t : State) (xs : List (Said k)) → Run k s xs t → t.settled ≡ true → ReadOut k t

-- the call with its answer opens no mark at depth d
abbrev pub OpensNone : {k : Kind} → ℕ → Said k → Type 0
OpensNone d x = (number : ℕ) → x ≡ (mark, slip number d) → ⊥

-- none of the calls opened a mark at depth d
abbrev pub Unmarked : {k : Kind} → ℕ → List (Said k) → Type 0
Unmarked d xs = All (OpensNone d) xs

-- the latest mark at depth d among the calls, which gave the slip with this number
pub record MarkOf {k : Kind} (number d : ℕ) (calls : List (Said k)) : Type 0 where
  pub before : List (Said k)
  pub inner : List (Said k)
  pub split : calls ≡ before ++ ((mark, slip number d) ∷ inner)
  pub unmarked : Unmarked d inner

-- An accepted back takes back each call from its mark, the latest at its depth, through itself: the run without them leads to the same plan,
-- and whichever answers the calls that remain may have, they are the same, chains aside.
abbrev pub BacksRestore : Kind → State → Type 0
BacksRestore k s = (t : State) (number d : ℕ) (earlier later : List (Said k)) → Run k s (earlier ++ ((back number d, done) ∷ later)) t
    → (m : MarkOf number d earlier) × Run k s (m.before ++ later) t
    × ((u : State) (ys : List (Said k)) → Run k s ys u → map call_of ys ≡ map call_of (m.before ++ later)
    → (map answer_of ys ≡ map answer_of (m.before ++ later)) × (u ≡ t))

-- the call with its answer is no accepted back
abbrev pub Forward : {k : Kind} → Said k → Type 0
Forward x = (number d : ℕ) → x ≡ (back number d, done) → ⊥

-- what remains of the calls: an accepted back takes back each from its mark through itself
pub data Remaining {k : Kind} : List (Said k) → List (Said k) → Type 0 where
  start : Remaining [] []
  further : {xs ys : List (Said k)} {x : Said k} → Remaining xs ys → Forward x → Remaining (xs ++ x ∷ []) (ys ++ x ∷ [])
  taken : {xs ys : List (Said k)} (inner : List (Said k)) (number d : ℕ) → Remaining xs (ys ++ ((mark, slip number d) ∷ inner)) → Unmarked d inner
      → Remaining (xs ++ (back number d, done) ∷ []) ys

-- the bound, where the answer says that a post added it
abbrev pub if_moved : {k : Kind} → Row → Answer k → List Row
if_moved b (settled count) = []
if_moved b covered = []
if_moved b (moved count) = b ∷ []
if_moved b (time value) = []
if_moved b (slip number d) = []
if_moved b done = []
if_moved b (refused fault) = []

-- the bound that the call added to the book: that of a post which was accepted and not covered
abbrev pub accepted : {k : Kind} → Call → Answer k → List Row
accepted (settle length) a = []
accepted (post length b) a = if_moved b a
accepted (read p) a = []
accepted mark a = []
accepted (keep number d) a = []
accepted (back number d) a = []

-- the bounds that the calls added, in order
abbrev pub all_accepted : {k : Kind} → List (Said k) → List Row
all_accepted [] = []
all_accepted (x ∷ xs) = accepted x.0 x.1 ++ all_accepted xs

-- The book's bounds are those at opening and then, in order, each that a post accepted and no back took back.
abbrev pub BooksStand : Kind → State → Type 0
BooksStand k s = (t : State) (xs : List (Said k)) → Run k s xs t
    → ((ys : List (Said k)) × Remaining xs ys) × ((ys : List (Said k)) → Remaining xs ys → rows t ≡ rows s ++ all_accepted ys)

-- the law of all runs that begin with the plan s, as opening gives it
pub record RunsStand (k : Kind) (s : State) : Type 0 where
  pub opened : Opened s
  pub agree : RunsAgree k s
  pub conflicts : ConflictsTrue k s
  pub reads : ReadsLeast k s
  pub backs : BacksRestore k s
  pub books : BooksStand k s
