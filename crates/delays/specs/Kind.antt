-- A kind of delay: which rows of whole numbers it has, what it computes with them, and the laws that it keeps. Assumes nothing.
use Rattle.std.specs.Prelude.{◌≡◌, ℕ, ◌+◌, ◌≤◌, Bool, true, T, ◌⊎◌, List, ℤ, FitsSigned, unsigned_abs}
use Rattle.std.specs.Int.{w64}
use Rattle.delays.specs.Sizes.{small_part}

-- a row of whole numbers, one of those that `has` tells
pub record Row (has : List ℤ → Bool) : Type 0 where
  pub places : List ℤ
  pub had : T (has places)

-- An exact delay of a kind is a row that it has, so zero, sums and opposites of its rows are rows that it has.
-- The order is a test. The parts t and s of a delay are two whole numbers, and `value` is the delay that has them.
pub record Kind : Type 0 where
  pub has : List ℤ → Bool
  pub zero : Row has
  pub sum : Row has → Row has → Row has
  pub opposite : Row has → Row has
  pub leq : Row has → Row has → Bool
  pub size : Row has → ℕ
  pub t : Row has → ℤ
  pub s : Row has → ℤ
  pub value : ℤ → ℤ → Row has
  pub greatest : ℕ
  pub reach : ℕ

-- the exact delays of a kind
abbrev pub Exact : Kind → Type 0
Exact k = Row k.has

-- a delay that a value of the kind can mean: its size is at most the reach
abbrev pub Within : (k : Kind) → Exact k → Type 0
Within k x = k.size x ≤ k.reach

-- the delay x has the parts a and b
pub record Parts (k : Kind) (x : Exact k) (a b : ℤ) : Type 0 where
  pub first : k.t x ≡ a
  pub second : k.s x ≡ b

-- no delay that a value can mean has the parts a and b
abbrev pub Unread : Kind → ℤ → ℤ → Type 0
Unread k a b = (x : Exact k) → Within k x → Parts k x a b → ⊥

-- the laws that each kind proves
pub record Lawful (k : Kind) : Type 0 where
  -- the sum
  pub assoc : (x y z : Exact k) → k.sum (k.sum x y) z ≡ k.sum x (k.sum y z)
  pub comm : (x y : Exact k) → k.sum x y ≡ k.sum y x
  pub zero_adds_nothing : (x : Exact k) → k.sum x k.zero ≡ x
  pub cancels : (x : Exact k) → k.sum x (k.opposite x) ≡ k.zero
  -- the order
  pub reflexive : (x : Exact k) → k.leq x x ≡ true
  pub transitive : (x y z : Exact k) → k.leq x y ≡ true → k.leq y z ≡ true → k.leq x z ≡ true
  pub antisymmetric : (x y : Exact k) → k.leq x y ≡ true → k.leq y x ≡ true → x ≡ y
  pub compares : (x y : Exact k) → (k.leq x y ≡ true) ⊎ (k.leq y x ≡ true)
  -- adding one delay to both sides keeps their order
  pub shifts : (x y z : Exact k) → k.leq x y ≡ true → k.leq (k.sum x z) (k.sum y z) ≡ true
  -- the size
  pub size_zero : k.size k.zero ≡ 0
  pub size_opposite : (x : Exact k) → k.size (k.opposite x) ≡ k.size x
  pub size_sum : (x y : Exact k) → k.size (k.sum x y) ≤ k.size x + k.size y
  -- parts are signed numbers of 64 bits, they tell the delay, and small ones are those of a small delay
  pub parts_fit : (x : Exact k) → Within k x → FitsSigned w64 (k.t x) × FitsSigned w64 (k.s x)
  pub parts_tell : (x : Exact k) → Within k x → k.value (k.t x) (k.s x) ≡ x
  pub small_parts : (x : Exact k) → Within k x → unsigned_abs (k.t x) ≤ small_part → unsigned_abs (k.s x) ≤ small_part → k.size x ≤ k.greatest
