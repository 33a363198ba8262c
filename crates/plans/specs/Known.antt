-- Plans with known outcomes: calls on new plans with their answers, and the words of their bounds and chains. Assumes nothing.
use Rattle.std.specs.Prelude.{◌≡◌, ℕ, List, [], ◌∷◌, ◌++◌, ◌≤◌, map, length, take, drop, ℤ, pos, negsuc, Ok, Err, Result}
use Rattle.bounds.specs.declared.row.Row.{Row}
use Rattle.delays.specs.Kind.{Kind}
use Rattle.delays.specs.Ticks.{tick, ticks_kind}
use Rattle.delays.specs.Ranked.{rank, ranked_kind}
use Rattle.words.specs.declared.fault.WordFault.{WordFault}
use Rattle.words.specs.declared.fault.WordFault.TheVariants.{Word}
use Rattle.words.specs.Words.{row_words}
use Rattle.words.specs.Reading.{Holds, Checked}
use Rattle.words.specs.Faults as words
use Rattle.books.specs.Layers.{table_of}
use Rattle.plans.specs.declared.fault.PlanFault.TheVariants.{Conflict}
use Rattle.plans.specs.Conflicts.{ChainWritten}
use Rattle.plans.specs.Answers.{settle, post, read, mark, back, settled, moved, time, slip, done, refused}
use Rattle.plans.specs.States.{State, rows, opened}
use Rattle.plans.specs.Runs.{Said, Run, call_of, answer_of}

-- a bound: left minus right is at most t and s
abbrev pub bound : ℕ → ℕ → ℤ → ℤ → Row
bound left right t s = record { left = left; right = right; t = t; s = s }

-- a new plan of n points, with the plan number 0, over a table with no bound
abbrev pub fresh : ℕ → State
fresh n = opened (table_of []) n 0

-- the calls on a new plan of n points are answered so, and, chains aside, no otherwise
pub record Answered (k : Kind) (n : ℕ) (calls : List (Said k)) : Type 0 where
  pub after : State
  pub run : Run k (fresh n) calls after
  pub only : (t : State) (others : List (Said k)) → Run k (fresh n) others t → map call_of others ≡ map call_of calls
      → (map answer_of others ≡ map answer_of calls) × (t ≡ after)

-- whatever chain a plan of n points, whose book has these bounds, writes on the caller's list for this posted bound, it is these words
abbrev pub ChainIs : (k : Kind) → ℕ → List Row → Row → List ℕ → Type 0
ChainIs k n book posted words = (before after : List ℕ) (c : ℕ) → ChainWritten k n book (posted ∷ []) before after c
    → (c ≡ length words) × (take c after ≡ words)

-- a list with room for them can be written so that it begins with these words, and they are such a chain
abbrev pub ChainCan : (k : Kind) → ℕ → List Row → Row → List ℕ → Type 0
ChainCan k n book posted words = (before : List ℕ) → length words ≤ length before
    → ChainWritten k n book (posted ∷ []) before (words ++ drop (length words) before) (length words)

-- after the calls on a new plan of n points, to post a bound more is a conflict with a chain of these words
pub record Conflicted (k : Kind) (n : ℕ) (calls : List (Said k)) (book : List Row) (posted : Row) (words : List ℕ) : Type 0 where
  pub answers : Answered k n (calls ++ (post n posted, refused (Conflict (length words))) ∷ [])
  -- the book has these bounds, and not the one that was posted
  pub stands : rows answers.after ≡ book
  pub chain : ChainIs k n book posted words
  pub written : ChainCan k n book posted words

-- the check of the words is answered so, and no otherwise
abbrev pub CheckedOnly : List ℕ → Result ℕ WordFault → Type 0
CheckedOnly ws r = Checked ws r × ((q : Result ℕ WordFault) → Checked ws q → q ≡ r)

-- point 1 comes at most 5 after point 0
abbrev pub at_most_five : Row
at_most_five = bound 1 0 (pos 5) (pos 0)

-- point 1 comes a step after point 0, and point 2 a step after point 1
abbrev pub one_step : Row
one_step = bound 0 1 (pos 0) (negsuc 0)

abbrev pub next_step : Row
next_step = bound 1 2 (pos 0) (negsuc 0)

-- settled, and then both steps are posted
abbrev pub stepping : List (Said ranked_kind)
stepping = (settle 3, settled 0) ∷ ((post 3 one_step, moved 1) ∷ ((post 3 next_step, moved 1) ∷ []))

-- a head of the points 0 and 1, a t word, and an s word of zero
abbrev pub with_t : ℕ → List ℕ
with_t w = 0x40000001 ∷ (w ∷ (0xC0000000 ∷ []))

pub record KnownOutcomes : Type 0 where
  -- a point that comes no later than itself moves nothing
  pub no_later : Answered ticks_kind 1 ((settle 1, settled 0) ∷ ((post 1 (bound 0 0 (pos 0) (pos 0)), moved 0) ∷ []))
  -- a point can't come before itself: the chain is the posted bound alone
  pub before_itself : Conflicted ticks_kind 1 ((settle 1, settled 0) ∷ []) [] (bound 0 0 (negsuc 0) (pos 0)) (0xC0000000 ∷ [])
  -- point 1 can't come 5 before point 0: the chain is the posted bound and the floor of point 1
  pub before_start : Conflicted ticks_kind 2 ((settle 2, settled 0) ∷ []) [] (bound 1 0 (negsuc 4) (pos 0)) (0xC0000000 ∷ (0x80000001 ∷ []))
  -- point 1 comes at most 5 after point 0, and at least 5: so it comes at 5
  pub just_five : Answered ticks_kind 2
      ((settle 2, settled 0) ∷ ((post 2 at_most_five, moved 0) ∷ ((post 2 (bound 0 1 (negsuc 4) (pos 0)), moved 1)
      ∷ ((read 1, time (tick (pos 5))) ∷ []))))
  -- at most 5 and at least 6: the chain is the posted bound and the first of the book
  pub five_or_six : Conflicted ticks_kind 2 ((settle 2, settled 0) ∷ ((post 2 at_most_five, moved 0) ∷ [])) (at_most_five ∷ [])
      (bound 0 1 (negsuc 5) (pos 0)) (0xC0000000 ∷ (0x40000000 ∷ []))
  -- two steps after point 0 are no millisecond and two steps
  pub two_steps : Answered ranked_kind 3 (stepping ++ (read 2, time (rank (pos 0) (pos 2))) ∷ [])
  -- point 2 can't come as early as point 1, a step before it: the chain is the posted bound and the second of the book
  pub step_back : Conflicted ranked_kind 3 stepping (one_step ∷ (next_step ∷ [])) (bound 2 1 (pos 0) (pos 0)) (0xC0000000 ∷ (0x40000001 ∷ []))
  -- point 2 comes before the millisecond after point 0, by as many steps as a bound can say: that moves nothing
  pub many_steps : Answered ranked_kind 3 (stepping ++ (post 3 (bound 2 0 (pos 1) (negsuc 499_999_999)), moved 0) ∷ [])
  -- what is tried after a mark is taken back
  pub taken_back : Answered ticks_kind 2
      ((settle 2, settled 0) ∷ ((mark, slip 0 1) ∷ ((post 2 (bound 0 1 (negsuc 6) (pos 0)), moved 1)
      ∷ ((back 0 1, done) ∷ ((read 1, time (tick (pos 0))) ∷ [])))))
  -- point 1 comes at least 20 after point 0, as words
  pub twenty : row_words (bound 0 1 (negsuc 19) (pos 0)) ≡ 0x40000001 ∷ (0xBFFFFFEC ∷ (0xC0000000 ∷ []))
  -- the greatest t word is 500,000,000
  pub greatest_t : Holds (bound 0 1 (pos 500_000_000) (pos 0) ∷ []) (with_t 0x9DCD6500) × CheckedOnly (with_t 0x9DCD6500) (Ok 1)
  -- and the next word is no t: it is refused at its place with the fault 13
  pub past_greatest_t : CheckedOnly (with_t 0x9DCD6501) (Err (Word 1)) × ((words.fault_of (Word 1)).number ≡ 13) × ((words.fault_of (Word 1)).place ≡ 1)
