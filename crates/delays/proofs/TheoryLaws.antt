-- What follows from the laws of a kind: those of an ordered group. Assumes nothing.
use Rattle.std.proofs.Common.{◌≡◌, true, sym, ap, ◌∙◌, subst}
use Rattle.delays.specs.Kind.{Kind, Exact, Lawful}
use Rattle.delays.specs.Theory.{Theory}

module _ {k : Kind} (laws : Lawful k) where
  zero_left : (x : Exact k) → k.sum k.zero x ≡ x
  zero_left x = laws.comm k.zero x ∙ laws.zero_adds_nothing x

  cancels_left : (x : Exact k) → k.sum (k.opposite x) x ≡ k.zero
  cancels_left x = laws.comm (k.opposite x) x ∙ laws.cancels x

  -- a delay that is added and taken away again, or taken away and added
  there_and_back : (x z : Exact k) → k.sum (k.sum x z) (k.opposite z) ≡ x
  there_and_back x z = laws.assoc x z (k.opposite z) ∙ (ap (k.sum x) (laws.cancels z) ∙ laws.zero_adds_nothing x)

  back_and_there : (x z : Exact k) → k.sum (k.sum x (k.opposite z)) z ≡ x
  back_and_there x z = laws.assoc x (k.opposite z) z ∙ (ap (k.sum x) (cancels_left z) ∙ laws.zero_adds_nothing x)

  -- in an order each side may be replaced by its equal
  at_left : {x y : Exact k} (z : Exact k) → x ≡ y → k.leq x z ≡ true → k.leq y z ≡ true
  at_left z e = subst (λ w. k.leq w z ≡ true) e

  at_right : {x y : Exact k} (z : Exact k) → x ≡ y → k.leq z x ≡ true → k.leq z y ≡ true
  at_right z e = subst (λ w. k.leq z w ≡ true) e

  unshift : (x y z : Exact k) → k.leq (k.sum x z) (k.sum y z) ≡ true → k.leq x y ≡ true
  unshift x y z h = at_left y (there_and_back x z) (at_right _ (there_and_back y z) (laws.shifts (k.sum x z) (k.sum y z) (k.opposite z) h))

  add_orders : (x y z w : Exact k) → k.leq x y ≡ true → k.leq z w ≡ true → k.leq (k.sum x z) (k.sum y w) ≡ true
  add_orders x y z w p q =
      laws.transitive (k.sum x z) (k.sum y z) (k.sum y w) (laws.shifts x y z p)
      (at_left _ (laws.comm z y) (at_right _ (laws.comm w y) (laws.shifts z w y q)))

  -- a delay has one opposite
  one_opposite : (x y : Exact k) → k.sum x y ≡ k.zero → y ≡ k.opposite x
  one_opposite x y e =
      sym (zero_left y) ∙ (ap (λ w. k.sum w y) (sym (cancels_left x)) ∙ (laws.assoc (k.opposite x) x y
      ∙ (ap (k.sum (k.opposite x)) e ∙ laws.zero_adds_nothing (k.opposite x))))

  -- of two opposites that are added to a delay, its own goes away with it
  own_goes_first : (x y : Exact k) → k.sum x (k.sum (k.opposite x) (k.opposite y)) ≡ k.opposite y
  own_goes_first x y = sym (laws.assoc x (k.opposite x) (k.opposite y)) ∙ (ap (λ w. k.sum w (k.opposite y)) (laws.cancels x) ∙ zero_left (k.opposite y))

  own_goes_second : (x y : Exact k) → k.sum y (k.sum (k.opposite x) (k.opposite y)) ≡ k.opposite x
  own_goes_second x y = ap (k.sum y) (laws.comm (k.opposite x) (k.opposite y)) ∙ own_goes_first y x

  opposite_sum : (x y : Exact k) → k.opposite (k.sum x y) ≡ k.sum (k.opposite x) (k.opposite y)
  opposite_sum x y =
      sym (one_opposite (k.sum x y) (k.sum (k.opposite x) (k.opposite y))
      (laws.assoc x y (k.sum (k.opposite x) (k.opposite y)) ∙ (ap (k.sum x) (own_goes_second x y) ∙ laws.cancels x)))

  -- adding both opposites to both sides changes the sides over
  opposite_reverses : (x y : Exact k) → k.leq x y ≡ true → k.leq (k.opposite y) (k.opposite x) ≡ true
  opposite_reverses x y h =
      at_left _ (own_goes_first x y) (at_right _ (own_goes_second x y) (laws.shifts x y (k.sum (k.opposite x) (k.opposite y)) h))

  pub theory : Theory k
  theory = record {
    cancel = λ x y z e. sym (there_and_back x z) ∙ (ap (λ w. k.sum w (k.opposite z)) e ∙ there_and_back y z);
    unshift = unshift;
    move_right = λ x y z h. at_right _ (there_and_back y z) (laws.shifts x (k.sum y z) (k.opposite z) h);
    move_left = λ x y z h. at_left _ (back_and_there x z) (laws.shifts (k.sum x (k.opposite z)) y z h);
    add_orders = add_orders;
    opposite_zero = sym (one_opposite k.zero k.zero (laws.zero_adds_nothing k.zero));
    opposite_twice = λ x. sym (one_opposite (k.opposite x) x (cancels_left x));
    opposite_sum = opposite_sum;
    opposite_reverses = opposite_reverses;
    parts_differ = λ x y h i p.
        sym (laws.parts_tell x h) ∙ (ap (λ a. k.value a (k.s x)) p.first ∙ (ap (k.value (k.t y)) p.second ∙ laws.parts_tell y i));
  }
