use Rattle.plans.proofs.Outcomes.{outcomes}
use Rattle.plans.proofs.known.known_outcomes.Goals as goal

pub returns : goal.returns
returns c = outcomes
