use Rattle.network.proofs.Theorems.{earliest_theory}
use Rattle.network.proofs.walk.comes_over.Goals as goal

pub returns-then-not-leads-clause-earliest : goal.returns-then-not-leads-clause-earliest
returns-then-not-leads-clause-earliest g c = earliest_theory g.met.D.Quantity.lawful

pub returns-in_err-sum-clause-earliest : goal.returns-in_err-sum-clause-earliest
returns-in_err-sum-clause-earliest g c = earliest_theory g.met.D.Quantity.lawful

pub returns-clause-earliest : goal.returns-clause-earliest
returns-clause-earliest g c = earliest_theory g.met.D.Quantity.lawful
