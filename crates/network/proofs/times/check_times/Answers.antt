use Rattle.network.proofs.Theorems.{walk_theory, consistency}
use Rattle.network.proofs.times.check_times.Goals as goal

pub returns-clause-walks : goal.returns-clause-walks
returns-clause-walks g c = walk_theory g.met.D.Quantity.lawful

pub returns-clause-consistency : goal.returns-clause-consistency
returns-clause-consistency g c = consistency g.met.D.Quantity.lawful
