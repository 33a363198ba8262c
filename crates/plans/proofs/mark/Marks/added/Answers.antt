use Rattle.std.proofs.Common.{length, ap, ◌<◌, arith}
use Rattle.plans.proofs.Marking.{length-marks_in, marks_youngest}
use Rattle.plans.proofs.mark.Marks.added.Goals as goal

pub overflow_sub-result : goal.overflow_sub-result
overflow_sub-result g c =
    let m = c.self.inside in
    omega (arith, length-marks_in m.depth m.added m.times, ap length c.self.view_is, c.requires)

pub returns : goal.returns
returns g c = λ before m split.
    let own = c.self.inside in
    let some : 0 < own.depth = omega (arith, length-marks_in own.depth own.added own.times, ap length c.self.view_is, c.requires) in
    ap (λ x. x.added) (marks_youngest own.depth own.added own.times some c.args.self.now before m c.self.view_is split)
