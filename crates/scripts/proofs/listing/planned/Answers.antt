use Rattle.std.proofs.Common.{ap, refl, arith, rules}
use Rattle.plans.specs.Plans.{state_of}
use Rattle.plans.specs.States.{State}
use Rattle.scripts.specs.declared.answer.Answer.TheVariants.{Settled}
use Rattle.scripts.specs.Sessions.{list_length}
use Rattle.scripts.proofs.Putting.{puts_more}
use Rattle.scripts.proofs.Remaining.{settle_ready, opens_settled, opens_none}
use Rattle.scripts.proofs.listing.planned.Goals as goal

pub plan_lines-requires : goal.plan_lines-requires
plan_lines-requires g c =
    let short = c.put_line-written.ensures.short in
    let ready = settle_ready (state_of c.args.plan.now) list_length c.in-Ok.count (state_of c.settle.new.self) c.in-Ok.ensures.step
    (ap (λ (s : State). s.marks) c.requires.new.1) in
    (search rules, (c.requires.parts, (ready, (omega arith, omega (arith, short)))))

pub returns-in-Ok : goal.returns-in-Ok
returns-in-Ok g c =
    let s = state_of c.args.plan.now in
    let t = state_of c.settle.new.self in
    let ready = settle_ready s list_length c.in-Ok.count t c.in-Ok.ensures.step (ap (λ (s : State). s.marks) c.requires.new.1) in (
      Settled c.in-Ok.count,
      t,
      c.plan_lines.ensures.0,
      λ points new session. opens_settled points s t new session c.in-Ok.count c.in-Ok.ensures.step ready,
      c.plan_lines.ensures.1,
      puts_more c.put_line-written.ensures.puts c.plan_lines.ensures.2,
    )

pub returns-in-Err : goal.returns-in-Err
returns-in-Err g c = (
  λ points new session. opens_none points (state_of c.args.plan.now) (state_of c.settle.new.self) new session c.in-Err.fault c.fault_answer.result
      c.fault_answer.ensures.says c.in-Err.ensures.step,
  c.fault_answer.ensures.short,
  refl,
)
