use Rattle.std.proofs.Common.{arith, rules}
use Rattle.relaxation.proofs.Lining.{untaken_none, clear_kept, pop_inside, pop_kept}
use Rattle.relaxation.proofs.line.Line.clear.Goals as goal

pub bounds-self-inside-from : goal.bounds-self-inside-from
bounds-self-inside-from c =
    let l = c.loop-place in
    pop_inside l.self-inside.queue l.self-inside.waits l.place c.self.inside.tail l.invariant (search rules) c.from.result c.from.ensures (omega arith)

pub loop-place-preserved : goal.loop-place-preserved
loop-place-preserved c =
    let l = c.loop-place in
    pop_kept l.self-inside.queue l.self-inside.waits l.place c.self.inside.tail l.invariant (search rules) c.from.result c.from.ensures (omega arith)

pub invariant_of-self : goal.invariant_of-self
invariant_of-self c =
    let l = c.loop-place in
    (omega arith, clear_kept l.self-inside.queue l.self-inside.waits l.place c.self.inside.tail l.invariant (omega arith))

pub returns : goal.returns
returns c = untaken_none _
