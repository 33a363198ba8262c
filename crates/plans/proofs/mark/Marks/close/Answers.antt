use Rattle.std.proofs.Common.{length, sym, ap, ◌∙◌, ◌<◌, ◌-◌, arith}
use Rattle.plans.proofs.Marking.{length-marks_in, mark_at, marks_parted}
use Rattle.plans.proofs.mark.Marks.close.Goals as goal

pub overflow_sub-self : goal.overflow_sub-self
overflow_sub-self g c =
    let m = c.self.inside in
    omega (arith, length-marks_in m.depth m.added m.times, ap length c.self.view_is, c.requires)

pub returns : goal.returns
returns g c =
    let own = c.self.inside in
    let some : 0 < own.depth = omega (arith, length-marks_in own.depth own.added own.times, ap length c.self.view_is, c.requires) in
    (mark_at own.added own.times (own.depth - 1), sym c.self.view_is ∙ marks_parted own.depth own.added own.times some)
