-- The law of all runs of a plan. Assumes nothing.
use Rattle.delays.specs.Kind.{Kind, Lawful}
use Rattle.plans.specs.States.{State}
use Rattle.plans.specs.Runs.{Opened, RunsStand}
use Rattle.plans.proofs.Agreeing.{runs_agree}
use Rattle.plans.proofs.Judging.{conflicts_true, reads_least}
use Rattle.plans.proofs.TakingBack.{backs_restore}
use Rattle.plans.proofs.Remaining.{books_stand}

pub law_of_runs : {k : Kind} → Lawful k → (s : State) → Opened s → RunsStand k s
law_of_runs laws s o = record {
  opened = o;
  agree = runs_agree laws s;
  conflicts = conflicts_true laws s o;
  reads = reads_least laws s o;
  backs = backs_restore laws s o;
  books = books_stand s o;
}
