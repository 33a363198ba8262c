use Rattle.std.proofs.Common.{length, ap, arith}
use Rattle.plans.proofs.Marking.{length-marks_in}
use Rattle.plans.proofs.mark.Marks.depth.Goals as goal

pub returns-clause-count : goal.returns-clause-count
returns-clause-count g c =
    let m = c.self.inside in
    omega (arith, length-marks_in m.depth m.added m.times, ap length c.self.view_is)
