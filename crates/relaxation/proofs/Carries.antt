-- What a time comes to that is carried along a row of bounds. Assumes nothing.
use Rattle.std.proofs.Common.{◌≡◌, ℕ, [], ◌∷◌, ◌++◌, sym, ap, ◌∙◌}
use Rattle.delays.specs.Kind.{Kind, Exact, Lawful}
use Rattle.delays.proofs.TheoryLaws.{theory}
use Rattle.network.specs.Bounds.{ExactBound, Bounds}
use Rattle.network.specs.Assignments.{Le}
use Rattle.network.specs.Walks.{sum_of}
use Rattle.network.specs.Rounds.{carry}
use Rattle.network.proofs.Shortening.{sum_of-append}
use Rattle.relaxation.specs.Spreads.{asked_along}

module _ {k : Kind} (laws : Lawful k) where
  -- a delay of zero carries a time on as it is
  pub carry_zero : (x : Exact k) → carry k x k.zero ≡ x
  carry_zero x = ap (k.sum x) (theory laws).opposite_zero ∙ laws.zero_adds_nothing x

  -- a time that is carried over one delay and then over another is carried over their sum
  pub carry_twice : (x d e : Exact k) → carry k (carry k x d) e ≡ carry k x (k.sum d e)
  carry_twice x d e = laws.assoc x (k.opposite d) (k.opposite e) ∙ ap (k.sum x) (sym ((theory laws).opposite_sum d e))

  -- what is later stays later
  pub carry_orders : (x y d : Exact k) → Le k x y → Le k (carry k x d) (carry k y d)
  carry_orders x y d h = laws.shifts x y (k.opposite d) h

  -- one bound more at the end of a row
  pub along_push : (time : ℕ → Exact k) (root : ℕ) (row : Bounds k) (b : ExactBound k)
      → asked_along k time root (row ++ b ∷ []) ≡ carry k (asked_along k time root row) b.delay
  along_push time root row b =
      ap (carry k (time root)) (sum_of-append laws row (b ∷ []) ∙ ap (k.sum (sum_of k row)) (laws.zero_adds_nothing b.delay))
      ∙ sym (carry_twice (time root) (sum_of k row) b.delay)

  -- the empty walk asks of the root the time that it has
  pub along_none : (time : ℕ → Exact k) (root q : ℕ) → root ≡ q → asked_along k time root [] ≡ time q
  along_none time root q e = carry_zero (time root) ∙ ap time e
