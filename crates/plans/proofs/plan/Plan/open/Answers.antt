use Rattle.std.proofs.Common.{refl, ap}
use Rattle.plans.specs.Plans.{counts}
use Rattle.plans.proofs.AllRuns.{law_of_runs}
use Rattle.plans.proofs.plan.Plan.open.Goals as goal

pub returns-clause-law : goal.returns-clause-law
returns-clause-law g c = law_of_runs g.met.D.Delay.lawful _ (record { unsettled = refl; unmarked = ap counts c.new-2.ensures })
