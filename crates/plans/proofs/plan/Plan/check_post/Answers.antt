use Rattle.std.proofs.Common.{arith}
use Rattle.plans.specs.Plans.{state_of}
use Rattle.plans.proofs.Checked.{left_refused, right_refused, pair_answered, list_refused, post_tries}
use Rattle.plans.proofs.plan.Plan.check_post.Goals as goal

pub returns-then-from-self : goal.returns-then-from-self
returns-then-from-self g c =
    left_refused g.D.Delay.kind (state_of c.args.self.now) c.args.length c.args.row (c.in_ok-check_settled.ensures {u = tt})
    (omega (arith, c.if-from-self.true, c.from.ensures))

pub returns-then-from-self-2 : goal.returns-then-from-self-2
returns-then-from-self-2 g c =
    right_refused g.D.Delay.kind (state_of c.args.self.now) c.args.length c.args.row (c.in_ok-check_settled.ensures {u = tt})
    (omega (arith, c.if-from-self.false, c.from.ensures))
    (omega (arith, c.if-from-self-2.true, c.from-2.ensures))

pub returns-in_err-delay : goal.returns-in_err-delay
returns-in_err-delay g c =
    pair_answered g.D.Delay.kind (state_of c.args.self.now) c.args.length c.args.row _ c.from_residual-in_err-delay.result
    c.in_err-delay.field-0.0 c.from_residual-in_err-delay.ensures.1 (c.in_ok-check_settled.ensures {u = tt})
    (omega (arith, c.if-from-self.false, c.from.ensures))
    (omega (arith, c.if-from-self-2.false, c.from-2.ensures))
    (c.in_err-delay.ensures {u = tt})

pub returns-then-length-self : goal.returns-then-length-self
returns-then-length-self g c =
    list_refused g.D.Delay.kind (state_of c.args.self.now) c.args.length c.args.row (c.in_ok-check_settled.ensures {u = tt})
    (omega (arith, c.if-from-self.false, c.from.ensures))
    (omega (arith, c.if-from-self-2.false, c.from-2.ensures))
    (c.in_ok-delay.ensures {u = tt}).0 c.if-length-self.true

pub returns : goal.returns
returns g c = (
  post_tries g.D.Delay.kind (state_of c.args.self.now) c.args.length c.args.row (c.in_ok-check_settled.ensures {u = tt})
      (omega (arith, c.if-from-self.false, c.from.ensures)) (omega (arith, c.if-from-self-2.false, c.from-2.ensures))
      (c.in_ok-delay.ensures {u = tt}).0 c.if-length-self.false,
  (c.in_ok-delay.ensures {u = tt}).1,
)
