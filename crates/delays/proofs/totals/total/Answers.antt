use Rattle.std.proofs.Common.{◌+◌, ◌<◌, sym, ap, subst, arith}
use Rattle.delays.specs.Totals.{total_upto, Summed}
use Rattle.delays.proofs.TotalLaws.{sum_next, sum_goes_on, small_within}
use Rattle.delays.proofs.totals.total.Goals as goal

pub loop-x-preserved : goal.loop-x-preserved
loop-x-preserved g c =
    let has = ap g.D.Quantity.means c.delay.ensures in
    sum_goes_on g.met.D.Quantity.lawful c.loop-x.invariant c.loop-x-test.true c.x-item.is c.in_ok-sum.ensures has (g.met.D.Quantity.within c.in_ok-sum.sum)

-- the sum that leaves the reach
past : (g : _) (c : goal.After-from_residual g) → let d = g.D.Quantity in
    d.kind.reach < d.kind.size (total_upto d.kind (λ x. d.means (g.T.HasDelay.delay_of x)) c.args.xs.now (c.loop-x.x-index + 1))
past g c =
    let d = g.D.Quantity in
    let has = ap d.means c.delay.ensures in
    let sum = c.loop-x.invariant.sum in
    let next = sum_next g.met.D.Quantity.lawful (λ x. d.means (g.T.HasDelay.delay_of x)) c.args.xs.now sum c.loop-x-test.true c.x-item.is has in
    subst (λ z. d.kind.reach < d.kind.size z) next c.in_err-sum.ensures

pub returns-in_err-sum-clause-sums : goal.returns-in_err-sum-clause-sums
returns-in_err-sum-clause-sums g c =
    let d = g.D.Quantity in
    let none = sym c.from_residual.ensures in
    subst (Summed d.kind d.means (λ x. d.means (g.T.HasDelay.delay_of x)) c.args.xs.now) none (c.loop-x.x-index + 1, omega arith, past g c)

pub returns-in_err-sum-clause-small : goal.returns-in_err-sum-clause-small
returns-in_err-sum-clause-small g c few small =
    let d = g.met.D.Quantity in
    let within = small_within d.lawful (λ x. g.D.Quantity.means (g.T.HasDelay.delay_of x)) c.args.xs.now d.room few small (c.loop-x.x-index + 1) in
    let never : ⊥ = omega (arith, past g c, within) in
    absurd never
