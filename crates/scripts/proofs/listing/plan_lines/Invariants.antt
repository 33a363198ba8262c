use Rattle.std.proofs.Common.{◌-◌, length, drop}
use Rattle.plans.specs.Plans.{state_of}
use Rattle.scripts.specs.Lines.{script_lines}
use Rattle.scripts.specs.Planned.{PlanListing}
use Rattle.scripts.specs.Ready.{Ready}
use Rattle.scripts.proofs.Progress.{Progress}
use Rattle.scripts.proofs.listing.plan_lines.Given as goal

abbrev pub invariant-lines : goal.invariant-lines
invariant-lines g l = record {
  progress : Progress l.initial.output l.output l.initial.written l.written l.number (drop l.at l.script)
      (λ text. PlanListing g.D.Delay.kind (state_of l.initial.plan) l.initial.number (script_lines (drop l.initial.at l.script)) text)
      (λ text. PlanListing g.D.Delay.kind (state_of l.plan) l.number (script_lines (drop l.at l.script)) text);
  ready : Ready (state_of l.plan);
}

abbrev pub decreases-lines : goal.decreases-lines
decreases-lines g l = length l.script - l.at
