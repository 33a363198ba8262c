use Rattle.std.proofs.Common.{◌≡◌, ℕ, length, subst, arith, rules}
use Rattle.bounds.specs.Making.{row_of}
use Rattle.plans.specs.Answers.{post, done, refused}
use Rattle.plans.specs.Plans.{state_of, post_answer}
use Rattle.plans.specs.Steps.{Step}
use Rattle.scripts.specs.Sessions.{list_length}
use Rattle.scripts.proofs.Remaining.{mark_opens, tried}
use Rattle.scripts.proofs.asking.try_bound.Goals as goal

pub returns-in_err-slip-clause-ready : goal.returns-in_err-slip-clause-ready
returns-in_err-slip-clause-ready g c =
    let first = state_of c.args.plan.now in
    let no = (mark_opens first (refused c.in_err-slip.field-0.0) (state_of c.mark.new.self) c.in_err-slip.ensures.step c.requires.ready).0 in
    absurd (cc)

pub returns-in_err-back-clause-tried : goal.returns-in_err-back-clause-tried
returns-in_err-back-clause-tried g c =
    let all = tried (state_of c.args.plan.now) (state_of c.mark.new.self) (state_of c.post-outcome.new.self) (state_of c.back.new.self) _ _ _ _ _
    (refused c.in_err-back.field-0.0) c.in_ok-slip.ensures.step c.post-outcome.ensures.step c.in_err-back.ensures.step c.requires.ready in
    let no = all.0 in
    absurd (cc)

pub returns-in_err-back-clause-ready : goal.returns-in_err-back-clause-ready
returns-in_err-back-clause-ready g c =
    (tried (state_of c.args.plan.now) (state_of c.mark.new.self) (state_of c.post-outcome.new.self) (state_of c.back.new.self) _ _ _ _ _
    (refused c.in_err-back.field-0.0) c.in_ok-slip.ensures.step c.post-outcome.ensures.step c.in_err-back.ensures.step c.requires.ready).1

pub returns-clause-ready : goal.returns-clause-ready
returns-clause-ready g c =
    (tried (state_of c.args.plan.now) (state_of c.mark.new.self) (state_of c.post-outcome.new.self) (state_of c.back.new.self) _ _ _ _ _
    done c.in_ok-slip.ensures.step c.post-outcome.ensures.step c.in_ok-back.ensures.step c.requires.ready).1

pub returns-clause-tried : goal.returns-clause-tried
returns-clause-tried g c =
    let long : length c.args.list.now ≡ list_length = first_of (omega arith, search rules) in
    let marked = state_of c.mark.new.self in
    let posted = state_of c.post-outcome.new.self in (
      marked,
      posted,
      c.in_ok-slip.slip.number,
      c.in_ok-slip.slip.depth,
      c.in_ok-slip.ensures.step,
      subst (λ (n : ℕ). Step g.D.Delay.kind marked (post n (row_of c.args.bound)) (post_answer c.post-outcome.result) posted) long c.post-outcome.ensures.step,
      c.in_ok-back.ensures.step,
    )
