use Rattle.std.proofs.Common.{rules, arith}
use Rattle.network.specs.Edges.{time_of_point}
use Rattle.relaxation.proofs.Turns.{turning_begins, turning_few, turning_ends, turning_falls, turning_goes}
use Rattle.relaxation.proofs.spreading.Spreading.spread.Goals as goal

pub loop-point-init : goal.loop-point-init
loop-point-init g c =
    let self = c.args.self.now in
    turning_begins g.met.D.Delay.lawful (time_of_point g.D.Delay.kind g.D.Delay.means self.times) self.over self.line c.requires.ready c.requires.turns

pub pop-requires : goal.pop-requires
pop-requires g c = omega (arith, turning_few g.met.D.Delay.lawful c.loop-point.invariant)

pub take_up-requires : goal.take_up-requires
take_up-requires g c =
    let falls = turning_falls g.met.D.Delay.lawful c.loop-point.invariant _ _ c.in-Some.ensures.oldest c.pop.ensures.few in
    (search rules, (rw (← c.in-Some.ensures.oldest) c.loop-point.invariant.working, omega (arith, falls, c.in-Some.ensures.taken)))

pub loop-point-smaller : goal.loop-point-smaller
loop-point-smaller g c =
    let falls = turning_falls g.met.D.Delay.lawful c.loop-point.invariant _ _ c.in-Some.ensures.oldest c.pop.ensures.few in
    omega (arith, falls, c.in-Some.ensures.taken, c.take_up.ensures.turns)

pub loop-point-preserved : goal.loop-point-preserved
loop-point-preserved g c =
    turning_goes g.met.D.Delay.lawful c.loop-point.invariant _ _ c.in-Some.ensures.oldest c.pop.ensures.few c.take_up.new.self.line
    (omega (arith, c.in-Some.ensures.taken, c.take_up.ensures.turns)) c.if-take_up.ensures.taken

pub returns : goal.returns
returns g c = turning_ends g.met.D.Delay.lawful c.loop-point.invariant c.in_default.ensures.none.0
