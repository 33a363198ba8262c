use Rattle.plans.proofs.Marking.{marks_none}
use Rattle.plans.proofs.mark.Marks.new.Goals as goal

pub returns : goal.returns
returns g c = marks_none _ _
