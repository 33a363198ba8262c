use Rattle.std.proofs.Common.{arith}
use Rattle.relaxation.proofs.Lining.{push_joined, push_kept}
use Rattle.relaxation.proofs.line.Line.push.Goals as goal

pub invariant_of-self : goal.invariant_of-self
invariant_of-self c =
    let q = c.self.inside in
    let i = c.self.invariant in
    (omega arith, push_kept q.queue q.waits q.head q.tail i.1 c.self.told.1 c.self.told.0 i.0 c.args.point c.requires.inside c.if-not-self-point.true)

pub returns-then-not-self-point-clause-joined : goal.returns-then-not-self-point-clause-joined
returns-then-not-self-point-clause-joined c =
    let q = c.self.inside in
    let i = c.self.invariant in
    rw (← c.self.view_is)
    (push_joined q.queue q.waits q.head q.tail i.1 c.self.told.1 c.self.told.0 i.0 c.args.point c.requires.inside c.if-not-self-point.true)
