use Rattle.std.proofs.Common.{true, false, not, sym, ap, ◌∙◌, add-zero, arith}
use Rattle.network.specs.Edges.{time_of_point}
use Rattle.plans.specs.Rows.{differ}
use Rattle.plans.proofs.Tallies.{tally_few, moved_more, read_time}
use Rattle.plans.proofs.checks.moved_from_zero.Goals as goal
use Rattle.plans.proofs.checks.moved_from_zero.Goals.{then-ne, else-ne}

pub overflow_add-count : goal.overflow_add-count
overflow_add-count g c =
    let k = g.D.Delay.kind in
    omega (arith, tally_few (λ p. differ k k.zero (time_of_point k g.D.Delay.means c.args.times.now p)) c.loop-point.point)

pub loop-point-preserved : goal.loop-point-preserved
loop-point-preserved g c =
    let d = g.D.Delay in
    let p = c.loop-point.point in
    let u = c.zero-zero.result in
    let v = c.index-times-point.result in
    let second = read_time d.kind d.means c.args.times.now p v (omega (arith, c.told-times, c.requires)) c.index-times-point.is in
    let more =
    moved_more g.met.D.Delay.lawful (λ q. d.kind.zero) (time_of_point d.kind d.means c.args.times.now) p (d.means u) (d.means v) (g.D.PartialEq.eq u v)
    c.ne.result in
    let told = c.ne.ensures ∙ ap (λ x. not (g.D.PartialEq.eq u x)) (sym c.index-times-point.is) in
    let same = g.met.D.Delay.equal u v in
    let loop = c.loop-point in
    elim c.if-ne.branch [
      | then-ne w ↦ more true loop.count c.if-ne.count c.zero-zero.ensures second same told w.if-ne.true loop.invariant w.count-is
      | else-ne w ↦
          more false loop.count c.if-ne.count c.zero-zero.ensures second same told w.if-ne.false loop.invariant
          (w.count-is ∙ sym (add-zero loop.count))
    ]
