use Rattle.std.proofs.Common.{arith}
use Rattle.plans.proofs.Least.{read_step}
use Rattle.plans.specs.Plans.{state_of}
use Rattle.plans.proofs.Tallies.{read_time}
use Rattle.plans.proofs.plan.Plan.read.Goals as goal

pub bounds-self-point : goal.bounds-self-point
bounds-self-point g c =
    let s = c.args.self.now.sound.settled_times (c.in_ok-check_settled.ensures {u = tt}) in
    omega (arith, s.few, c.if-point-self.false)

pub returns : goal.returns
returns g c =
    let d = g.D.Delay in
    let plan = c.args.self.now in
    let on = c.in_ok-check_settled.ensures {u = tt} in
    let s = plan.sound.settled_times on in
    let x = c.index-self-point.result in
    rw (← c.index-self-point.is)
    (read_step g.met.D.Delay.lawful {s = state_of plan} on s.some s.fit s.least c.if-point-self.false (d.means x)
    (read_time d.kind d.means plan.times c.args.point x (omega (arith, s.few, c.if-point-self.false)) c.index-self-point.is))
