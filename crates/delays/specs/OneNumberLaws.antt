-- Kinds of one number keep the laws of a kind where their parts do: a row is its number, and the laws are those of whole numbers. Assumes nothing.
use Rattle.std.specs.Prelude.{◌≡◌, ℕ, ◌≤◌, true, T, ◌⊎◌, List, [], ◌∷◌, ℤ, pos, int_le, slice_index_or, refl, Decides, FitsSigned, unsigned_abs}
use Rattle.std.specs.Int.{w64}
use Rattle.std.specs.Ordering.{int_cmp, int_eq, is_le}
use Rattle.std.specs.Cmp.{signed_Decides}
use Rattle.std.proofs.Common.{sym, ap, ◌∙◌, inl, inr, ⊎_elim, arith}
use Rattle.std.proofs.Math.IntN.{+ℤ_assoc, +ℤ_comm, +ℤ_idr, +ℤ_invr}
use Rattle.std.proofs.lemmas.Bool.{cases_Bool}
use Rattle.std.proofs.lemmas.Int.{ints}
use Rattle.delays.specs.Kind.{Row, Lawful}
use Rattle.delays.specs.Sizes.{small_part, number_reach}
use Rattle.delays.specs.OneNumber.{one_number, row_of, number_of, one_number_kind}

row_is : (r : List ℤ) (h : T (one_number r)) → row_of (slice_index_or r 0 (pos 0)) ≡ record { places = r; had = h }
row_is [] h = elim h [ ]
row_is (n ∷ []) h = refl
row_is (n ∷ (m ∷ rest)) h = elim h [ ]

-- a row is that of its number
row_of_number : (x : Row one_number) → row_of (number_of x) ≡ x
row_of_number x = row_is x.places x.had

-- rows of one number are one row
same_number : (x y : Row one_number) → number_of x ≡ number_of y → x ≡ y
same_number x y e = sym (row_of_number x) ∙ ap row_of e ∙ row_of_number y

-- of two numbers one is at most the other
le_either : (a b : ℤ) → (int_le a b ≡ true) ⊎ (int_le b a ≡ true)
le_either a b = ⊎_elim inl (λ e. inr (grind (arith, ints))) (cases_Bool (int_le a b))

-- the laws of the parts, at numbers within the reach
pub record PartsLawful (t s : ℤ → ℤ) (value : ℤ → ℤ → ℤ) (greatest : ℕ) : Type 0 where
  pub fit : (n : ℤ) → unsigned_abs n ≤ number_reach → FitsSigned w64 (t n) × FitsSigned w64 (s n)
  pub tell : (n : ℤ) → unsigned_abs n ≤ number_reach → value (t n) (s n) ≡ n
  pub small : (n : ℤ) → unsigned_abs n ≤ number_reach → unsigned_abs (t n) ≤ small_part → unsigned_abs (s n) ≤ small_part → unsigned_abs n ≤ greatest

pub one_number_lawful : {t s : ℤ → ℤ} {value : ℤ → ℤ → ℤ} {greatest : ℕ} → PartsLawful t s value greatest → Lawful (one_number_kind t s value greatest)
one_number_lawful parts = record {
  assoc = λ x y z. ap row_of (+ℤ_assoc (number_of x) (number_of y) (number_of z));
  comm = λ x y. ap row_of (+ℤ_comm (number_of x) (number_of y));
  zero_adds_nothing = λ x. ap row_of (+ℤ_idr (number_of x)) ∙ row_of_number x;
  cancels = λ x. ap row_of (+ℤ_invr (number_of x));
  reflexive = λ x. grind (arith, ints);
  transitive = λ x y z p q. grind (arith, ints);
  antisymmetric = λ x y p q. same_number x y (omega (arith, ints));
  compares = λ x y. le_either (number_of x) (number_of y);
  shifts = λ x y z p. grind (arith, ints);
  size_zero = refl;
  size_opposite = λ x. omega (arith, ints);
  size_sum = λ x y. omega (arith, ints);
  parts_fit = λ x h. parts.fit (number_of x) h;
  parts_tell = λ x h. ap row_of (parts.tell (number_of x) h) ∙ row_of_number x;
  small_parts = λ x h p q. parts.small (number_of x) h p q;
}

-- the order of numbers is that of their rows, and equal numbers have one row
pub number_ordered : (n m : ℤ) → is_le (int_cmp n m) ≡ int_le (number_of (row_of n)) (number_of (row_of m))
number_ordered n m = grind (arith, ints)

pub number_equal : (n m : ℤ) → Decides (int_eq n m) (row_of n ≡ row_of m)
number_equal n m = (λ e. ap row_of ((signed_Decides n m).0 e), λ e. (signed_Decides n m).1 (ap number_of e))
