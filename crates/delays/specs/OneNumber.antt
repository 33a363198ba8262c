-- Kinds of one whole number, which differ in their parts and in their greatest. Assumes nothing.
use Rattle.std.specs.Prelude.{ℕ, Bool, true, false, List, [], ◌∷◌, ℤ, pos, ◌+ℤ◌, neg_ℤ, int_le, slice_index_or, unsigned_abs}
use Rattle.delays.specs.Kind.{Kind, Row}
use Rattle.delays.specs.Sizes.{number_reach}

-- the rows are those of one number
abbrev pub one_number : List ℤ → Bool
one_number [] = false
one_number (n ∷ []) = true
one_number (n ∷ (m ∷ rest)) = false

-- the row of a number
abbrev pub row_of : ℤ → Row one_number
row_of n = record { places = n ∷ []; had = tt }

-- the number of a row
abbrev pub number_of : Row one_number → ℤ
number_of x = slice_index_or x.places 0 (pos 0)

-- The sum, the order and the size are those of whole numbers. A number has the parts t and s, and two parts have the number that `value` gives.
abbrev pub one_number_kind : (t s : ℤ → ℤ) → (value : ℤ → ℤ → ℤ) → ℕ → Kind
one_number_kind t s value greatest = record {
  has = one_number;
  zero = row_of (pos 0);
  sum = λ x y. row_of (number_of x +ℤ number_of y);
  opposite = λ x. row_of (neg_ℤ (number_of x));
  leq = λ x y. int_le (number_of x) (number_of y);
  size = λ x. unsigned_abs (number_of x);
  t = λ x. t (number_of x);
  s = λ x. s (number_of x);
  value = λ a b. row_of (value a b);
  greatest = greatest;
  reach = number_reach;
}
