use Rattle.network.proofs.Examples.{worked}
use Rattle.network.proofs.worked.worked_examples.Goals as goal

pub returns : goal.returns
returns c = worked
