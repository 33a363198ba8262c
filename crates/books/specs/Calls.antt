-- What the calls of a book answer, and what they leave: over the books S there are, by what each means. `adds` and `cuts` are
-- what the storage promises of an accepted call beside the meaning. Assumes nothing.
use Rattle.std.specs.Prelude.{◌≡◌, ℕ, ◌<◌, ◌≤◌, Bool, true, false, List, [], ◌∷◌, length, Ok, Err, Option, Result}
use Rattle.std.specs.Option.{option_map}
use Rattle.std.specs.List.{slice_get}
use Rattle.bounds.specs.declared.bound.Bound.{Bound}
use Rattle.bounds.specs.declared.row.Row.{Row}
use Rattle.bounds.specs.Making.{row_of}
use Rattle.books.specs.declared.fault.BookFault.{BookFault}
use Rattle.books.specs.declared.fault.BookFault.TheVariants.{Full}
use Rattle.books.specs.Meaning.{Meaning, bounds_of, with_bounds, cut_to}

-- reading number i gives that bound, or nothing exactly when i is not below the count
abbrev pub Reads : Meaning → ℕ → Option Bound → Type 0
Reads m i r = option_map row_of r ≡ slice_get (bounds_of m) i

module _ {S : Type 0} (meaning : S → Meaning) where
  -- adding a bound puts it at the end of the added list, or is refused exactly when no place is free, and then nothing changes
  abbrev pub Adding : {U : Type 0} → (S → Row → S → Type 0) → S → Row → S → Result U BookFault → Type 0
  Adding adds before row after (Ok u) = (0 < (meaning before).free) × (meaning after ≡ with_bounds (meaning before) (row ∷ [])) × adds before row after
  Adding adds before row after (Err Full) = ((meaning before).free ≡ 0) × (after ≡ before)

  -- cutting to k keeps the first k added bounds: yes; or no exactly when there are fewer, and then nothing changes
  abbrev pub Cutting : (S → ℕ → S → Type 0) → S → ℕ → S → Bool → Type 0
  Cutting cuts before k after true = (k ≤ length (meaning before).added) × (meaning after ≡ cut_to (meaning before) k) × cuts before k after
  Cutting cuts before k after false = (length (meaning before).added < k) × (after ≡ before)

  -- bounds are added one after the other, each by a call of adding that is accepted
  abbrev pub OneByOne : (S → Row → S → Type 0) → S → List Row → S → Type 0
  OneByOne adds before [] after = after ≡ before
  OneByOne adds before (row ∷ rows) after = (next : S) × Adding {U = Unit {0}} adds before row next (Ok tt) × OneByOne adds next rows after

  -- adding several bounds adds all of them in their order, or none exactly when fewer places are free, and then nothing changes
  abbrev pub AddingAll : {U : Type 0} → (S → Row → S → Type 0) → S → List Row → S → Result U BookFault → Type 0
  AddingAll adds before rows after (Ok u) =
      (length rows ≤ (meaning before).free) × (meaning after ≡ with_bounds (meaning before) rows) × OneByOne adds before rows after
  AddingAll adds before rows after (Err Full) = ((meaning before).free < length rows) × (after ≡ before)

-- what calls of adding and cutting, accepted or refused, make of a book
pub data Went {S : Type 0} (meaning : S → Meaning) (adds : S → Row → S → Type 0) (cuts : S → ℕ → S → Type 0) : S → S → Type 0 where
  still : {a : S} → Went meaning adds cuts a a
  adding : {a b c : S} (bound : Bound) (r : Result (Unit {0}) BookFault) → Went meaning adds cuts a b → Adding meaning adds b (row_of bound) c r
      → Went meaning adds cuts a c
  cutting : {a b c : S} (k : ℕ) (r : Bool) → Went meaning adds cuts a b → Cutting meaning cuts b k c r → Went meaning adds cuts a c

-- whatever calls a book goes through, this part of it is the same
abbrev pub Keeps : {S T : Type 0} → (S → Meaning) → (S → Row → S → Type 0) → (S → ℕ → S → Type 0) → (S → T) → Type 0
Keeps {S} meaning adds cuts part = (a b : S) → Went meaning adds cuts a b → part b ≡ part a
