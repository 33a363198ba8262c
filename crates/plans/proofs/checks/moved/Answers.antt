use Rattle.std.proofs.Common.{true, false, not, get_or, sym, ap, ◌∙◌, add-zero, arith}
use Rattle.network.specs.Edges.{time_of_point}
use Rattle.plans.specs.Rows.{differ}
use Rattle.plans.proofs.Tallies.{tally_few, moved_more, read_time}
use Rattle.plans.proofs.checks.moved.Goals as goal
use Rattle.plans.proofs.checks.moved.Goals.{then-ne, else-ne}

pub overflow_add-count : goal.overflow_add-count
overflow_add-count g c =
    let time = time_of_point g.D.Delay.kind g.D.Delay.means in
    omega (arith, tally_few (λ p. differ g.D.Delay.kind (time c.args.before.now p) (time c.args.after.now p)) c.loop-point.point)

pub loop-point-preserved : goal.loop-point-preserved
loop-point-preserved g c =
    let d = g.D.Delay in
    let time = time_of_point d.kind d.means in
    let p = c.loop-point.point in
    let u = c.index-before-point.result in
    let v = c.index-after-point.result in
    let first = read_time d.kind d.means c.args.before.now p u (omega (arith, c.told-before, c.requires)) c.index-before-point.is in
    let second = read_time d.kind d.means c.args.after.now p v (omega (arith, c.told-after, c.requires)) c.index-after-point.is in
    let more =
    moved_more g.met.D.Delay.lawful (time c.args.before.now) (time c.args.after.now) p (d.means u) (d.means v) (g.D.PartialEq.eq u v) c.ne.result in
    let eq = g.D.PartialEq.eq in
    let told = c.ne.ensures ∙ (ap (λ x. not (eq x (get_or c.args.after.now p v))) (sym c.index-before-point.is) ∙ ap (λ x. not (eq u x)) (sym c.index-after-point.is)) in
    let same = g.met.D.Delay.equal u v in
    let loop = c.loop-point in
    elim c.if-ne.branch [
      | then-ne w ↦ more true loop.count c.if-ne.count first second same told w.if-ne.true loop.invariant w.count-is
      | else-ne w ↦ more false loop.count c.if-ne.count first second same told w.if-ne.false loop.invariant (w.count-is ∙ sym (add-zero loop.count))
    ]
