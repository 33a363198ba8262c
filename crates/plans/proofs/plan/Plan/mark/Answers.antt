use Rattle.plans.proofs.Sounds.{sound_marked}
use Rattle.plans.proofs.plan.Plan.mark.Goals as goal

pub invariant_of-self : goal.invariant_of-self
invariant_of-self g c = record {
  sound = sound_marked (c.in_ok-check_settled.ensures {u = tt}) (rw (← c.depth.ensures.count) c.if-depth-eq8.false) c.added_count-added.ensures
      c.open.ensures c.args.self.now.sound;
}
