use Rattle.std.proofs.Common.{◌<◌, length, inr, refl, arith}
use Rattle.relaxation.proofs.Writing.{rises_where_written}
use Rattle.relaxation.proofs.spreading.Spreading.relax.Goals as goal

pub returns-then-right-star-2-clause-asked : goal.returns-then-right-star-2-clause-asked
returns-then-right-star-2-clause-asked g c =
    let room : c.args.right < length c.args.self.now.times = omega arith in
    let places : c.args.right < length c.args.self.now.over = omega arith in
    inr (rises_where_written g.D.Delay.kind g.D.Delay.means c.args.self.now.times c.args.right room
    c.index-self-right.result c.add.ensures c.unwrap.ensures (c.sum_exceeds.ensures.0 c.if-not-sum_exceeds.false) c.if-right-star.false places
    (λ low. c.push.ensures.joined) (λ high. absurd (omega (arith, c.if-right-star-2.true))))

pub returns-else-right-star-2-clause-asked : goal.returns-else-right-star-2-clause-asked
returns-else-right-star-2-clause-asked g c =
    let room : c.args.right < length c.args.self.now.times = omega arith in
    let places : c.args.right < length c.args.self.now.over = omega arith in
    inr (rises_where_written g.D.Delay.kind g.D.Delay.means c.args.self.now.times c.args.right room
    c.index-self-right.result c.add.ensures c.unwrap.ensures (c.sum_exceeds.ensures.0 c.if-not-sum_exceeds.false) c.if-right-star.false places
    (λ low. absurd (omega (arith, c.if-right-star-2.false))) (λ high. refl))
