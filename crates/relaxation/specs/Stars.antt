-- Which bounds a spreading is about: those of a book that leave the points below a limit, the posted one, and the floors. Assumes nothing.
use Rattle.std.specs.Prelude.{◌≡◌, ℕ, List, [], ◌∷◌, ◌++◌, map, nat_lt, ◌==◌, if◌then◌else◌, slice_index, slice_index_or}
use Rattle.std.specs.List.{filter}
use Rattle.bounds.specs.declared.row.Row.{Row}
use Rattle.delays.specs.Kind.{Kind}
use Rattle.network.specs.Bounds.{ExactBound, Bounds, floor_of}
use Rattle.relaxation.specs.Rows.{exact_of, force}

-- the rows that leave points below the limit
abbrev pub below : ℕ → List Row → List Row
below limit rows = filter (λ r. nat_lt r.left limit) rows

-- the bounds in question: those rows, the posted one if there is one, and the floors
abbrev pub in_question : (k : Kind) → (n limit : ℕ) → (rows posted : List Row) → Bounds k
in_question k n limit rows posted = force k n (below limit rows ++ posted)

-- the bound that a number stands for, as that over which the point q rose: the number's in the book, or past the book the floor of q
abbrev pub numbered_at : (k : Kind) → List Row → ℕ → ℕ → ExactBound k
numbered_at k rows number q = slice_index_or (map (exact_of k) rows) number (floor_of k q)

-- the bound over which q rose last, where these numbers are noted: at the right point of a posted bound it is that bound
abbrev pub over_of : (k : Kind) → (rows posted : List Row) → List ℕ → ℕ → ExactBound k
over_of k rows [] over q = numbered_at k rows (slice_index over q) q
over_of k rows (b ∷ bs) over q = if q == b.right then exact_of k b else numbered_at k rows (slice_index over q) q

-- the first bound of a path from the root: the posted one, where there is one
abbrev pub Leads : (k : Kind) → List Row → ExactBound k → Type 0
Leads k [] lead = Unit {0}
Leads k (b ∷ bs) lead = lead ≡ exact_of k b
