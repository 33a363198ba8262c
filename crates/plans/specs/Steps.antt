-- One call on a plan: its checks in their order, its answer, and the plan after it. Assumes nothing.
use Rattle.std.specs.Prelude.{◌≡◌, ℕ, ◌+◌, ◌<◌, ◌≤◌, true, false, ◌⊎◌, List, [], ◌∷◌, ◌++◌, length}
use Rattle.bounds.specs.declared.row.Row.{Row}
use Rattle.delays.specs.Kind.{Kind, Exact, Unread}
use Rattle.delays.specs.declared.fault.KindFault.TheVariants.{Unread as unread}
use Rattle.books.specs.declared.fault.BookFault.TheVariants.{Full}
use Rattle.network.specs.Bounds.{Bounds}
use Rattle.network.specs.Chains.{ChainIn}
use Rattle.network.specs.Earliest.{Earliest}
use Rattle.plans.specs.declared.fault.PlanFault.{PlanFault}
use Rattle.plans.specs.declared.fault.PlanFault.TheVariants.{Unsettled, SettledAlready, Points, ListShort, Point, Kind as KindRefuses, Conflict, MarksFull}
use Rattle.plans.specs.declared.fault.PlanFault.TheVariants.{WrongSlip, Book}
use Rattle.plans.specs.Rows.{force, Outside, Covered, Times, moved_count}
use Rattle.plans.specs.Answers.{Call, settle, post, read, mark, keep, back, Answer, settled, covered, moved, time, slip, done, refused}
use Rattle.plans.specs.States.{State, rows, depth, settling, posting, marking, closing, cutting, noted}

-- what an answer, and the plan after the call, are held to
abbrev pub Ending : Kind → Type 1
Ending k = Answer k → State → Type 0

-- this is the answer, and this the plan after it
abbrev pub Becomes : {k : Kind} → Answer k → State → Ending k
Becomes answer after a t = (a ≡ answer) × (t ≡ after)

-- where `first` holds this is the answer, and the plan stays; otherwise what follows decides
abbrev pub Unless : {k : Kind} → State → Type 0 → Answer k → Ending k → Ending k
Unless s first answer next a t = (first × Becomes answer s a t) ⊎ ((first → ⊥) × next a t)

-- where `bad` holds the call is refused with the fault, and the plan stays; otherwise what follows decides
abbrev pub Check : {k : Kind} → State → Type 0 → PlanFault → Ending k → Ending k
Check s bad fault = Unless s bad (refused fault)

-- the bounds from number i on: each for its points and then for its pair
abbrev pub EachBound : (k : Kind) → State → ℕ → List Row → Ending k → Ending k
EachBound k s i [] next = next
EachBound k s i (b ∷ bs) next =
    Check s (Outside s.points b) (Point i)
    (Check s (Unread k b.t b.s) (KindRefuses unread i)
    (EachBound k s (i + 1) bs next))

-- these bounds and the floors hold a chain, and the fault tells its length; or there are earliest times, and what follows decides
abbrev pub Conflicts : (k : Kind) → State → List Row → ((ℕ → Exact k) → Ending k) → Ending k
Conflicts k s bounds next a t =
    ((row : Bounds k) × ChainIn k (force k s.points bounds) row × Becomes (refused (Conflict (length row))) s a t)
    ⊎ ((x : ℕ → Exact k) × Times k s.points bounds x × next x a t)

-- past the check of a post for a conflict, where x are the earliest times with the bound: it is added if the book has a free place
abbrev pub PostAdded : (k : Kind) → State → Row → (ℕ → Exact k) → Ending k
PostAdded k s b x =
    Check s (s.book.free ≡ 0) (Book Full)
    (λ a t. (old : ℕ → Exact k) × Times k s.points (rows s) old × Becomes (moved (moved_count k s.points old x)) (posting b s) a t)

-- past the earlier checks of a post: the bound is covered, or else it may bring a conflict, or be added
abbrev pub PostDecided : (k : Kind) → State → Row → Ending k
PostDecided k s b =
    Unless s (Covered k (rows s) b) covered
    (Conflicts k s (rows s ++ b ∷ []) (PostAdded k s b))

-- the slip has the plan's number and its present depth, and that mark is open
pub record Present (s : State) (number d : ℕ) : Type 0 where
  pub number_is : number ≡ s.number
  pub depth_is : d ≡ depth s
  pub is_open : 0 < d

-- the answer to the call, and the plan after it
abbrev pub Step : (k : Kind) → State → Call → Ending k
Step k s (settle length) =
    Check s (s.settled ≡ true) SettledAlready
    (Check s ((s.points ≡ 0) ⊎ (128 < s.points)) Points
    (Check s (length < s.points) ListShort
    (EachBound k s 0 (rows s)
    (Conflicts k s (rows s) (λ x.
    Becomes (settled (moved_count k s.points (λ p. k.zero) x)) (settling s))))))
Step k s (post length b) =
    Check s (s.settled ≡ false) Unsettled
    (Check s (s.points ≤ b.left) (Point 1)
    (Check s (s.points ≤ b.right) (Point 2)
    (Check s (Unread k b.t b.s) (KindRefuses unread 0)
    (Check s (length < s.points) ListShort
    (PostDecided k s b)))))
Step k s (read p) =
    Check s (s.settled ≡ false) Unsettled
    (Check s (s.points ≤ p) (Point 1)
    (λ a t. (x : Exact k) × Earliest k (force k s.points (rows s)) p x × Becomes (time x) s a t))
Step k s mark =
    Check s (s.settled ≡ false) Unsettled
    (Check s (depth s ≡ 8) MarksFull
    (Becomes (slip s.number (depth s + 1)) (marking s)))
Step k s (keep number d) =
    Check s (s.settled ≡ false) Unsettled
    (Check s (Present s number d → ⊥) WrongSlip
    (Becomes done (closing d s)))
Step k s (back number d) =
    Check s (s.settled ≡ false) Unsettled
    (Check s (Present s number d → ⊥) WrongSlip
    (Becomes done (cutting (noted s d) (closing d s))))
