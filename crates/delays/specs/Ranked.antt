-- Ranked: milliseconds, and a step inside one millisecond. Assumes nothing.
use Rattle.std.specs.Prelude.{max, Bool, true, false, ◌&&◌, ◌||◌, List, [], ◌∷◌, ℤ, pos, ◌+ℤ◌, neg_ℤ, int_le, int_lt, slice_index_or, unsigned_abs}
use Rattle.delays.specs.Kind.{Kind, Row}
use Rattle.delays.specs.Sizes.{small_part, number_reach}

-- the rows are those of two numbers
abbrev pub two_numbers : List ℤ → Bool
two_numbers [] = false
two_numbers (t ∷ []) = false
two_numbers (t ∷ (s ∷ [])) = true
two_numbers (t ∷ (s ∷ (u ∷ rest))) = false

-- the row of two numbers
abbrev pub rank : ℤ → ℤ → Row two_numbers
rank t s = record { places = t ∷ (s ∷ []); had = tt }

-- the two numbers of a row
abbrev pub first : Row two_numbers → ℤ
first x = slice_index_or x.places 0 (pos 0)

abbrev pub second : Row two_numbers → ℤ
second x = slice_index_or x.places 1 (pos 0)

-- t and s come before u and v, or are they: by the first number, and then by the second
abbrev pub before : ℤ → ℤ → ℤ → ℤ → Bool
before t s u v = int_lt t u || (int_le t u && int_le s v)

-- added place by place; the parts are the two numbers, and the size is the larger of both without its sign
abbrev pub ranked_kind : Kind
ranked_kind = record {
  has = two_numbers;
  zero = rank (pos 0) (pos 0);
  sum = λ x y. rank (first x +ℤ first y) (second x +ℤ second y);
  opposite = λ x. rank (neg_ℤ (first x)) (neg_ℤ (second x));
  leq = λ x y. before (first x) (second x) (first y) (second y);
  size = λ x. max (unsigned_abs (first x)) (unsigned_abs (second x));
  t = first;
  s = second;
  value = rank;
  greatest = small_part;
  reach = number_reach;
}
