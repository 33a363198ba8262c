use Rattle.std.proofs.Common.{◌≡◌, ℕ, length, sym, subst, arith, rules}
use Rattle.bounds.specs.Making.{row_of}
use Rattle.plans.specs.Answers.{read, post}
use Rattle.plans.specs.Plans.{state_of, post_answer, read_answer}
use Rattle.plans.specs.Steps.{Step}
use Rattle.scripts.specs.declared.command.Command.{Command}
use Rattle.scripts.specs.Sessions.{Obeys, list_length}
use Rattle.scripts.proofs.Remaining.{post_ready}
use Rattle.scripts.proofs.asking.obey.Goals as goal

pub returns-in-Post-clause-obeys : goal.returns-in-Post-clause-obeys
returns-in-Post-clause-obeys g c =
    let long : length c.args.list.now ≡ list_length = first_of (omega arith, search rules) in
    let step =
    subst (λ (n : ℕ). Step g.D.Delay.kind (state_of c.args.plan.now) (post n (row_of c.in-Post.bound)) (post_answer c.post.result) (state_of c.post.new.self))
    long c.post.ensures.step in
    subst (λ (x : Command). Obeys g.D.Delay.kind (state_of c.args.plan.now) x c.posted_answer.result (state_of c.post.new.self)) (sym c.in-Post.is)
    (post_answer c.post.result, step, c.posted_answer.ensures.says g.D.Delay.kind)

pub returns-in-Post-clause-ready : goal.returns-in-Post-clause-ready
returns-in-Post-clause-ready g c =
    post_ready (state_of c.args.plan.now) _ _ (post_answer c.post.result) (state_of c.post.new.self) c.post.ensures.step c.requires.ready

pub returns-in-Try-clause-obeys : goal.returns-in-Try-clause-obeys
returns-in-Try-clause-obeys g c =
    subst (λ (x : Command). Obeys g.D.Delay.kind (state_of c.args.plan.now) x c.posted_answer-in-Try.result (state_of c.try_bound.new.plan)) (sym c.in-Try.is)
    (post_answer c.try_bound.result, c.try_bound.ensures.tried, c.posted_answer-in-Try.ensures.says g.D.Delay.kind)

pub returns-in-Read-clause-obeys : goal.returns-in-Read-clause-obeys
returns-in-Read-clause-obeys g c =
    let s = state_of c.args.plan.now in
    subst (λ (x : Command). Obeys g.D.Delay.kind s x c.time_answer.result s) (sym c.in-Read.is) (
      read_answer g.D.Delay.means c.read.result,
      subst (λ (n : ℕ). Step g.D.Delay.kind s (read n) (read_answer g.D.Delay.means c.read.result) s) c.from.ensures c.read.ensures,
      c.time_answer.ensures.says,
    )
