use Rattle.std.proofs.Common.{inl, inr}
use Rattle.plans.specs.Plans.{state_of}
use Rattle.plans.proofs.Checked.{already_refused, points_refused, short_refused, bounds_checked}
use Rattle.plans.proofs.plan.Plan.check_settle.Goals as goal
use Rattle.plans.proofs.plan.Plan.check_settle.Goals.{then-self-eq0-via-then-self-eq0, then-self-eq0-via-else-self-eq0+then-self-gt128}

pub returns-then-self : goal.returns-then-self
returns-then-self g c = already_refused g.D.Delay.kind (state_of c.args.self.now) c.if-self.true

pub returns-then-self-eq0 : goal.returns-then-self-eq0
returns-then-self-eq0 g c =
    points_refused g.D.Delay.kind (state_of c.args.self.now) c.if-self.false
    (elim c.then-self-eq0.branch [
      | then-self-eq0-via-then-self-eq0 w ↦ inl w.if-self-eq0.true
      | then-self-eq0-via-else-self-eq0+then-self-gt128 w ↦ inr w.if-self-gt128.true
    ])

pub returns-then-length-self : goal.returns-then-length-self
returns-then-length-self g c =
    short_refused g.D.Delay.kind (state_of c.args.self.now) c.if-self.false c.if-self-eq0.false c.if-self-gt128.false c.if-length-self.true

pub returns : goal.returns
returns g c =
    bounds_checked g.D.Delay.kind (state_of c.args.self.now) c.if-self.false c.if-self-eq0.false c.if-self-gt128.false c.if-length-self.false
    c.first_misfit.result c.first_misfit.ensures
