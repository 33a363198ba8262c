use Rattle.plan_tests.proofs.mark_edges.+nest.Given as goal

abbrev pub decreases-nest : goal.decreases-nest
decreases-nest l = l.marks
