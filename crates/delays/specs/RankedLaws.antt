-- Ranked delays keep the laws of a kind: a row is its two numbers, and the order goes by the first of them that differ. Assumes nothing.
use Rattle.std.specs.Prelude.{◌≡◌, true, T, ◌⊎◌, List, [], ◌∷◌, ℤ, pos, slice_index_or, refl, ◌&&◌, Some, Decides}
use Rattle.std.specs.Ordering.{int_cmp, int_eq, is_le, is_some_and, partial_ordering_then}
use Rattle.std.specs.Cmp.{signed_Decides}
use Rattle.std.proofs.Common.{sym, ap, ◌∙◌, inl, inr, ⊎_elim, arith}
use Rattle.std.proofs.Math.IntN.{+ℤ_assoc, +ℤ_comm, +ℤ_idr, +ℤ_invr}
use Rattle.std.proofs.lemmas.Bool.{cases_Bool, and_parts, and_from}
use Rattle.std.proofs.lemmas.Int.{ints}
use Rattle.delays.specs.Kind.{Row, Lawful}
use Rattle.delays.specs.Ranked.{two_numbers, rank, first, second, before, ranked_kind}

-- equal numbers make equal rows
rank_same : {t u s v : ℤ} → t ≡ u → s ≡ v → rank t s ≡ rank u v
rank_same e f = cc

row_is : (r : List ℤ) (h : T (two_numbers r)) → rank (slice_index_or r 0 (pos 0)) (slice_index_or r 1 (pos 0)) ≡ record { places = r; had = h }
row_is [] h = elim h [ ]
row_is (t ∷ []) h = elim h [ ]
row_is (t ∷ (s ∷ [])) h = refl
row_is (t ∷ (s ∷ (u ∷ rest))) h = elim h [ ]

-- a row is that of its two numbers
rank_of : (x : Row two_numbers) → rank (first x) (second x) ≡ x
rank_of x = row_is x.places x.had

-- rows of the same two numbers are one row
same_rank : (x y : Row two_numbers) → first x ≡ first y → second x ≡ second y → x ≡ y
same_rank x y e f = sym (rank_of x) ∙ rank_same e f ∙ rank_of y

-- of two pairs of numbers one is before the other, or they are the same
before_either : (t s u v : ℤ) → (before t s u v ≡ true) ⊎ (before u v t s ≡ true)
before_either t s u v = ⊎_elim inl (λ e. inr (grind (arith, ints))) (cases_Bool (before t s u v))

pub ranked_lawful : Lawful ranked_kind
ranked_lawful = record {
  assoc = λ x y z. rank_same (+ℤ_assoc (first x) (first y) (first z)) (+ℤ_assoc (second x) (second y) (second z));
  comm = λ x y. rank_same (+ℤ_comm (first x) (first y)) (+ℤ_comm (second x) (second y));
  zero_adds_nothing = λ x. rank_same (+ℤ_idr (first x)) (+ℤ_idr (second x)) ∙ rank_of x;
  cancels = λ x. rank_same (+ℤ_invr (first x)) (+ℤ_invr (second x));
  reflexive = λ x. grind (arith, ints);
  transitive = λ x y z p q. grind (arith, ints);
  antisymmetric = λ x y p q. same_rank x y (grind (arith, ints)) (grind (arith, ints));
  compares = λ x y. before_either (first x) (second x) (first y) (second y);
  shifts = λ x y z p. grind (arith, ints);
  size_zero = refl;
  size_opposite = λ x. omega (arith, ints);
  size_sum = λ x y. omega (arith, ints);
  parts_fit = λ x h. (omega (arith, ints), omega (arith, ints));
  parts_tell = λ x h. rank_of x;
  small_parts = λ x h p q. omega arith;
}

-- the order by the first number, and then by the second, is that of the rows, and equal numbers have one row
pub ranked_ordered : (t s u v : ℤ) → is_some_and is_le (partial_ordering_then (Some (int_cmp t u)) (Some (int_cmp s v))) ≡ ranked_kind.leq (rank t s) (rank u v)
ranked_ordered t s u v = grind (arith, ints)

pub ranked_equal : (t s u v : ℤ) → Decides (int_eq t u && int_eq s v) (rank t s ≡ rank u v)
ranked_equal t s u v = (
  λ e. let both = and_parts (int_eq t u) (int_eq s v) e in rank_same ((signed_Decides t u).0 both.0) ((signed_Decides s v).0 both.1),
  λ e. and_from (int_eq t u) (int_eq s v) ((signed_Decides t u).1 (ap first e)) ((signed_Decides s v).1 (ap second e)),
)
