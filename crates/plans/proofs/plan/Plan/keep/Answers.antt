use Rattle.plans.proofs.Sounds.{sound_popped}
use Rattle.plans.proofs.plan.Plan.keep.Goals as goal

pub invariant_of-self : goal.invariant_of-self
invariant_of-self g c = record {
  sound = sound_popped c.close.ensures.0 (c.in_ok-check_settled.ensures {u = tt}) c.close.ensures.1 c.args.self.now.sound;
}
