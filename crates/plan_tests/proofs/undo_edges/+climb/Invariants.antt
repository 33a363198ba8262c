use Rattle.std.specs.Prelude.{length}
use Rattle.plan_tests.proofs.undo_edges.+climb.Given as goal

abbrev pub decreases-climb : goal.decreases-climb
decreases-climb g l = length l.levels.now
