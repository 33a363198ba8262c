-- What a plan is between two calls. Assumes nothing.
use Rattle.std.specs.Prelude.{ℕ, ◌-◌, Bool, true, false, List, [], ◌∷◌, ◌++◌, length, take, slice_index}
use Rattle.bounds.specs.declared.row.Row.{Row}
use Rattle.books.specs.Meaning.{Meaning, bounds_of, with_bounds, cut_to}

-- a plan, but for its times, which its bounds determine
pub record State : Type 0 where
  -- the fixed list, the added list and the free places of the book
  pub book : Meaning
  -- the number of points
  pub points : ℕ
  -- the plan number
  pub number : ℕ
  -- whether its earliest times were found
  pub settled : Bool
  -- for each open mark, the oldest first, how many added bounds the book had when it was opened
  pub marks : List ℕ

-- the bounds of the book
abbrev pub rows : State → List Row
rows s = bounds_of s.book

-- how many marks are open
abbrev pub depth : State → ℕ
depth s = length s.marks

-- a new plan: unsettled, with no mark open
abbrev pub opened : Meaning → ℕ → ℕ → State
opened book points number = record { book = book; points = points; number = number; settled = false; marks = [] }

-- the plan is settled
abbrev pub settling : State → State
settling s = record { book = s.book; points = s.points; number = s.number; settled = true; marks = s.marks }

-- the bound is added
abbrev pub posting : Row → State → State
posting b s = record { book = with_bounds s.book (b ∷ []); points = s.points; number = s.number; settled = s.settled; marks = s.marks }

-- a mark is opened
abbrev pub marking : State → State
marking s = record { book = s.book; points = s.points; number = s.number; settled = s.settled; marks = s.marks ++ length s.book.added ∷ [] }

-- the mark at depth d is closed
abbrev pub closing : ℕ → State → State
closing d s = record { book = s.book; points = s.points; number = s.number; settled = s.settled; marks = take (d - 1) s.marks }

-- the book is cut to k added bounds
abbrev pub cutting : ℕ → State → State
cutting k s = record { book = cut_to s.book k; points = s.points; number = s.number; settled = s.settled; marks = s.marks }

-- the count that the mark at depth d noted
abbrev pub noted : State → ℕ → ℕ
noted s d = slice_index s.marks (d - 1)
