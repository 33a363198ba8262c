-- What follows from the laws of a kind, whichever it is. Assumes nothing.
use Rattle.std.specs.Prelude.{◌≡◌, true}
use Rattle.delays.specs.Kind.{Kind, Exact, Within, Parts}

pub record Theory (k : Kind) : Type 0 where
  -- what is added to both sides can be taken away from both
  pub cancel : (x y z : Exact k) → k.sum x z ≡ k.sum y z → x ≡ y
  pub unshift : (x y z : Exact k) → k.leq (k.sum x z) (k.sum y z) ≡ true → k.leq x y ≡ true
  -- x is at most y plus z exactly when x less z is at most y
  pub move_right : (x y z : Exact k) → k.leq x (k.sum y z) ≡ true → k.leq (k.sum x (k.opposite z)) y ≡ true
  pub move_left : (x y z : Exact k) → k.leq (k.sum x (k.opposite z)) y ≡ true → k.leq x (k.sum y z) ≡ true
  -- sums of smaller delays are smaller
  pub add_orders : (x y z w : Exact k) → k.leq x y ≡ true → k.leq z w ≡ true → k.leq (k.sum x z) (k.sum y w) ≡ true
  -- opposites
  pub opposite_zero : k.opposite k.zero ≡ k.zero
  pub opposite_twice : (x : Exact k) → k.opposite (k.opposite x) ≡ x
  pub opposite_sum : (x y : Exact k) → k.opposite (k.sum x y) ≡ k.sum (k.opposite x) (k.opposite y)
  pub opposite_reverses : (x y : Exact k) → k.leq x y ≡ true → k.leq (k.opposite y) (k.opposite x) ≡ true
  -- no two delays that values can mean share a pair of parts
  pub parts_differ : (x y : Exact k) → Within k x → Within k y → Parts k x (k.t y) (k.s y) → x ≡ y
