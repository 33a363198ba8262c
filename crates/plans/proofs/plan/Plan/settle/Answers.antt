use Rattle.std.proofs.Common.{◌≡◌, ◌++◌, ◌≤◌, length, take, drop, refl, sym, ◌∙◌, arith}
use Rattle.std.proofs.lemmas.List.{length-take-le}
use Rattle.network.specs.Edges.{time_of_point}
use Rattle.plans.specs.Plans.{state_of}
use Rattle.plans.proofs.Chaining.{found_copied}
use Rattle.plans.proofs.Tallies.{front_copied, moved_same}
use Rattle.plans.proofs.Solving.{settle_conflict, settle_settled, sound_settled}
use Rattle.plans.proofs.plan.Plan.settle.Goals as goal

pub returns-in-Err-clause-step : goal.returns-in-Err-clause-step
returns-in-Err-clause-step g c =
    let tries = c.in_ok-check_settle.ensures {u = tt} in
    settle_conflict g.D.Delay.kind (state_of c.args.self.now) tries
    (found_copied (c.in-Err.ensures {u = tt}) c.args.list.now c.chain.result.now c.copy_from_slice.new.self c.chain.ensures c.copy_from_slice.ensures.after tries.3)

pub returns-in-Err-clause-list : goal.returns-in-Err-clause-list
returns-in-Err-clause-list g c =
    found_copied (c.in-Err.ensures {u = tt}) c.args.list.now c.chain.result.now c.copy_from_slice.new.self c.chain.ensures c.copy_from_slice.ensures.after
    (c.in_ok-check_settle.ensures {u = tt}).3

pub invariant_of-self-2 : goal.invariant_of-self-2
invariant_of-self-2 g c =
    let d = g.D.Delay in
    let plan = c.args.self.now in
    let tries = c.in_ok-check_settle.ensures {u = tt} in
    let found = c.in_default.ensures {u = tt} in
    let old = drop plan.points plan.times in
    let copied = rw c.times-times.ensures at c.copy_from_slice-2.ensures.after in
    let whole : length c.copy_from_slice-2.new.self ≡ plan.points =
    omega (arith, c.copy_from_slice-2.ensures.len, length-take-le plan.points plan.times (omega (arith, tries.2))) in
    record {
      sound = sound_settled g.met.D.Delay.lawful {book = g.B.Book.meaning plan.book} {n = plan.points} tries.1 tries.2 tries.4 found.0
          (front_copied d.kind d.means c.settle.new.self.times old c.copy_from_slice-2.new.self plan.points copied whole) found.1
          (plan.sound.unsettled tries.0);
    }

pub returns-clause-step : goal.returns-clause-step
returns-clause-step g c =
    let d = g.D.Delay in
    let plan = c.args.self.now in
    let tries = c.in_ok-check_settle.ensures {u = tt} in
    let found = c.in_default.ensures {u = tt} in
    let old = drop plan.points plan.times in
    let copied = rw c.times-times.ensures at c.copy_from_slice-2.ensures.after in
    let whole : length c.copy_from_slice-2.new.self ≡ plan.points =
    omega (arith, c.copy_from_slice-2.ensures.len, length-take-le plan.points plan.times (omega (arith, tries.2))) in
    let same = front_copied d.kind d.means c.settle.new.self.times old c.copy_from_slice-2.new.self plan.points copied whole in
    settle_settled d.kind (state_of plan) tries found.0
    (c.moved_from_zero.ensures
    ∙ moved_same d.kind plan.points (λ p. d.kind.zero) (λ p. d.kind.zero) (time_of_point d.kind d.means (c.copy_from_slice-2.new.self ++ old))
    (time_of_point d.kind d.means c.settle.new.self.times) (λ p l. refl) same)
