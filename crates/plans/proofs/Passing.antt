-- A pass over the rows of a book. Assumes nothing.
use Rattle.std.proofs.Common.{◌≡◌, ℕ, zero, suc, ◌+◌, ◌<◌, ◌≤◌, List, [], ◌∷◌, length, get_or, take, Some, None, sym, subst, arith}
use Rattle.std.specs.List.{All, slice_get}
use Rattle.std.proofs.lemmas.Option.{slice_get_within, get_or_from_slice_get}
use Rattle.std.proofs.lemmas.List.{take_all}
use Rattle.std.proofs.lemmas.List.Elements.{All-more}
use Rattle.bounds.specs.declared.row.Row.{Row}
use Rattle.bounds.specs.declared.bound.Bound.{Bound}
use Rattle.bounds.specs.Making.{row_of}
use Rattle.books.specs.Meaning.{Meaning, bounds_of}
use Rattle.books.specs.Calls.{Reads}
use Rattle.std.proofs.lemmas.Option.{none-some}

-- where nothing is read the list has ended
none_past : {X : Type 0} (xs : List X) (i : ℕ) → slice_get xs i ≡ None → length xs ≤ i
none_past [] i e = omega arith
none_past (x ∷ xs) zero e = absurd (none-some x (sym e))
none_past (x ∷ xs) (suc i) e = let h : length xs ≤ i = none_past xs i e in omega arith

module _ (m : Meaning) (i : ℕ) where
  -- a number that reads a bound is below the count, and the bound's row has it
  module _ (b : Bound) (read : Reads m i (Some b)) where
    pub read_within : i < length (bounds_of m)
    read_within = slice_get_within (bounds_of m) i (row_of b) (sym read)

    pub read_is : (d : Row) → get_or (bounds_of m) i d ≡ row_of b
    read_is d = get_or_from_slice_get (bounds_of m) i (row_of b) d (sym read)

    -- what is so of the rows before it, and of it, is so of one row more
    pub read_more : (P : Row → Type 0) → All P (take i (bounds_of m)) → P (row_of b) → All P (take (i + 1) (bounds_of m))
    read_more P before here = All-more P (bounds_of m) i (row_of b) read_within before (subst P (sym (read_is (row_of b))) here)

  -- where a number reads none, what is so of the rows before it is so of them all
  pub none_all : (P : Row → Type 0) → Reads m i None → All P (take i (bounds_of m)) → All P (bounds_of m)
  none_all P read all = subst (All P) (take_all i (bounds_of m) (none_past (bounds_of m) i (sym read))) all
