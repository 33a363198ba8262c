-- What the laws of a kind give of sums and of the order, for walks. Assumes nothing.
use Rattle.std.proofs.Common.{◌≡◌, sym, ap, ◌∙◌, ⊎_elim}
use Rattle.std.proofs.lemmas.Bool.{both_ways, cases_Bool}
use Rattle.delays.specs.Kind.{Kind, Exact, Lawful}
use Rattle.delays.proofs.TheoryLaws.{theory}
use Rattle.network.specs.Assignments.{Le, Lt}
use Rattle.network.specs.Rounds.{carry}

pub not_both : (k : Kind) (x y : Exact k) → Le k x y → Lt k y x → ⊥
not_both k x y at_most below = both_ways (k.leq x y) below at_most

module _ {k : Kind} (laws : Lawful k) where
  -- what is below is at most
  pub lt_le : (x y : Exact k) → Lt k x y → Le k x y
  lt_le x y h = ⊎_elim (λ e. e) (λ e. absurd (not_both k y x e h)) (laws.compares x y)

  -- at most what is below
  pub le_lt_trans : (x y z : Exact k) → Le k x y → Lt k y z → Lt k x z
  le_lt_trans x y z l h = ⊎_elim (λ e. absurd (not_both k z y (laws.transitive z x y e l) h)) (λ e. e) (cases_Bool (k.leq z x))

  -- below what is at most
  pub lt_le_trans : (x y z : Exact k) → Lt k x y → Le k y z → Lt k x z
  lt_le_trans x y z h l = ⊎_elim (λ e. absurd (not_both k y x (laws.transitive y z x l e) h)) (λ e. e) (cases_Bool (k.leq z x))

  -- a sum keeps the order of what is added
  pub sum_orders : (d x y : Exact k) → Le k x y → Le k (k.sum d x) (k.sum d y)
  sum_orders d x y h = rw (laws.comm d x, laws.comm d y) (laws.shifts x y d h)

  -- x is at most x plus s: s is not below zero
  pub zero_at_most : (x s : Exact k) → Le k x (k.sum x s) → Le k k.zero s
  zero_at_most x s h = (theory laws).unshift k.zero s x (rw (laws.comm k.zero x, laws.zero_adds_nothing x, laws.comm s x) h)

  -- what is not below zero, added, makes no less
  pub no_less : (f x : Exact k) → Le k k.zero f → Le k x (k.sum f x)
  no_less f x h = rw (laws.comm k.zero x, laws.zero_adds_nothing x) at (laws.shifts k.zero f x h)

  -- x plus s is below x: s is below zero
  pub below_zero : (x s : Exact k) → Lt k (k.sum x s) x → Lt k s k.zero
  below_zero x s h =
      ⊎_elim (λ e. absurd (not_both k x (k.sum x s) (rw (laws.comm s x) at (no_less s x e)) h)) (λ e. e) (cases_Bool (k.leq k.zero s))

  -- one bound more in front of a walk
  pub step : (a b c d s : Exact k) → Le k a (k.sum b d) → Le k b (k.sum c s) → Le k a (k.sum c (k.sum d s))
  step a b c d s h l = laws.transitive a (k.sum b d) _ h (rw (laws.comm d s, ← laws.assoc c s d) (laws.shifts b (k.sum c s) d l))

  -- zero is at most x plus s: the opposite of s is at most x
  pub opposite_at_most : (x s : Exact k) → Le k k.zero (k.sum x s) → Le k (k.opposite s) x
  opposite_at_most x s h = rw (laws.comm k.zero (k.opposite s), laws.zero_adds_nothing (k.opposite s)) at ((theory laws).move_right k.zero x s h)

  -- opposites change the sides of the order over
  pub opposites_reverse : (x y : Exact k) → Le k (k.opposite x) (k.opposite y) → Le k y x
  opposites_reverse x y h = rw ((theory laws).opposite_twice x, (theory laws).opposite_twice y) at ((theory laws).opposite_reverses _ _ h)

  -- a label that is carried over a bound, and taken back
  pub carry_back : (x d : Exact k) → k.sum (carry k x d) d ≡ x
  carry_back x d = laws.assoc x (k.opposite d) d ∙ (ap (k.sum x) (laws.comm (k.opposite d) d ∙ laws.cancels d) ∙ laws.zero_adds_nothing x)

  -- where b is a carried over d, and is c plus s: a is c plus d plus s
  pub carry_sum : (a b c d s : Exact k) → b ≡ carry k a d → b ≡ k.sum c s → a ≡ k.sum c (k.sum d s)
  carry_sum a b c d s e f =
      sym (carry_back a d) ∙ (ap (λ x. k.sum x d) (sym e) ∙ (ap (λ x. k.sum x d) f ∙ (laws.assoc c s d ∙ ap (k.sum c) (laws.comm s d))))
