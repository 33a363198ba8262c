use Rattle.delays.proofs.TotalLaws.{SummedUpto}
use Rattle.delays.proofs.totals.total.Given as goal

abbrev pub invariant-loop-x : goal.invariant-loop-x
invariant-loop-x g l = SummedUpto g.D.Quantity.kind (λ x. g.D.Quantity.means (g.T.HasDelay.delay_of x)) l.xs l.x-index (g.D.Quantity.means l.sum)
