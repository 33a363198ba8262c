-- What carrying a time over a row of bounds comes to, and that it raises nothing over a row that is not below zero. Assumes nothing.
use Rattle.std.proofs.Common.{◌≡◌, [], ◌∷◌, ◌++◌, sym, ap, ◌∙◌, ⊎_elim}
use Rattle.std.proofs.lemmas.Bool.{cases_Bool}
use Rattle.delays.specs.Kind.{Kind, Exact, Lawful}
use Rattle.delays.proofs.TheoryLaws.{theory}
use Rattle.network.specs.Bounds.{ExactBound, Bounds}
use Rattle.network.specs.Assignments.{Le, Lt}
use Rattle.network.specs.Walks.{sum_of}
use Rattle.network.specs.Rounds.{carry}
use Rattle.network.proofs.Orders.{not_both, sum_orders}
use Rattle.network.proofs.Shortening.{sum_of-append}

module _ {k : Kind} (laws : Lawful k) where
  -- below what is at most
  pub lt_le_trans : (x y z : Exact k) → Lt k x y → Le k y z → Lt k x z
  lt_le_trans x y z h l = ⊎_elim (λ e. absurd (not_both k y x (laws.transitive y z x l e) h)) (λ e. e) (cases_Bool (k.leq z x))

  pub carry_zero : (x : Exact k) → carry k x k.zero ≡ x
  carry_zero x = ap (k.sum x) (theory laws).opposite_zero ∙ laws.zero_adds_nothing x

  pub carry_orders : (x y d : Exact k) → Le k x y → Le k (carry k x d) (carry k y d)
  carry_orders x y d h = laws.shifts x y (k.opposite d) h

  -- carried over one row and then over another
  pub carry_append : (x : Exact k) (xs ys : Bounds k) → carry k x (sum_of k (xs ++ ys)) ≡ carry k (carry k x (sum_of k xs)) (sum_of k ys)
  carry_append x xs ys =
      ap (carry k x) (sum_of-append laws xs ys) ∙ (ap (k.sum x) ((theory laws).opposite_sum (sum_of k xs) (sum_of k ys))
      ∙ sym (laws.assoc x (k.opposite (sum_of k xs)) (k.opposite (sum_of k ys))))

  pub carry_one : (x : Exact k) (b : ExactBound k) → carry k x (sum_of k (b ∷ [])) ≡ carry k x b.delay
  carry_one x b = ap (carry k x) (laws.zero_adds_nothing b.delay)

  -- carried over one bound and then over a row
  pub carry_front : (x : Exact k) (b : ExactBound k) (row : Bounds k) → carry k x (sum_of k (b ∷ row)) ≡ carry k (carry k x b.delay) (sum_of k row)
  carry_front x b row = carry_append x (b ∷ []) row ∙ ap (λ y. carry k y (sum_of k row)) (carry_one x b)

  -- carried over a row and then over one bound more
  pub carry_push : (x : Exact k) (row : Bounds k) (b : ExactBound k) → carry k x (sum_of k (row ++ b ∷ [])) ≡ carry k (carry k x (sum_of k row)) b.delay
  carry_push x row b = carry_append x row (b ∷ []) ∙ carry_one (carry k x (sum_of k row)) b

  -- What is not below zero, taken away, leaves no more. So a row that carries x to more than x has a sum below zero.
  pub carry_falls : (x s : Exact k) → Le k k.zero s → Le k (carry k x s) x
  carry_falls x s h =
      rw (carry_zero x) at (sum_orders laws x (k.opposite s) (k.opposite k.zero) ((theory laws).opposite_reverses k.zero s h))

  pub carry_below : (x s : Exact k) → Lt k x (carry k x s) → Lt k s k.zero
  carry_below x s h = ⊎_elim (λ e. absurd (not_both k (carry k x s) x (carry_falls x s e) h)) (λ e. e) (cases_Bool (k.leq k.zero s))

  -- A bound asks more of the end of a closed row than it has, and the row carries the bound's left point no less than it has: the sum is below zero.
  pub round_below : (x y : Exact k) (row : Bounds k) (b : ExactBound k) → Le k y (carry k x (sum_of k row)) → Lt k x (carry k y b.delay)
      → Lt k (sum_of k (row ++ b ∷ [])) k.zero
  round_below x y row b low up =
      carry_below x (sum_of k (row ++ b ∷ []))
      (rw (carry_push x row b) (lt_le_trans x (carry k y b.delay) _ up (carry_orders y (carry k x (sum_of k row)) b.delay low)))
