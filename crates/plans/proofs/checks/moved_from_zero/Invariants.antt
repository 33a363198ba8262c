use Rattle.std.proofs.Common.{◌≡◌}
use Rattle.network.specs.Edges.{time_of_point}
use Rattle.plans.specs.Rows.{moved_count}
use Rattle.plans.proofs.checks.moved_from_zero.Given as goal

abbrev pub invariant-loop-point : goal.invariant-loop-point
invariant-loop-point g l =
    l.count ≡ moved_count g.D.Delay.kind l.point (λ p. g.D.Delay.kind.zero) (time_of_point g.D.Delay.kind g.D.Delay.means l.times)
