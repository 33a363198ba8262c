use Rattle.std.proofs.Common.{◌≡◌}
use Rattle.network.specs.Edges.{time_of_point}
use Rattle.plans.specs.Rows.{moved_count}
use Rattle.plans.proofs.checks.moved.Given as goal

abbrev pub invariant-loop-point : goal.invariant-loop-point
invariant-loop-point g l =
    let time = time_of_point g.D.Delay.kind g.D.Delay.means in l.count ≡ moved_count g.D.Delay.kind l.point (time l.before) (time l.after)
