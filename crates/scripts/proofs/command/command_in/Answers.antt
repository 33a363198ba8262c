use Rattle.std.proofs.Common.{rules, inl, inr}
use Rattle.scripts.specs.declared.command.Command.TheVariants.{Ticks, Ranked, Post, Try}
use Rattle.scripts.proofs.command.command_in.Goals as goal

pub returns-in_err-points_in-in-T : goal.returns-in_err-points_in-in-T
returns-in_err-points_in-in-T c = inl (search rules, search (rules, c.in_err-points_in-in-T.ensures Ticks))

pub returns-in_err-points_in-in-R : goal.returns-in_err-points_in-in-R
returns-in_err-points_in-in-R c = inr (inl (search rules, search (rules, c.in_err-points_in-in-R.ensures Ranked)))

pub returns-in_err-bound_in-in-P : goal.returns-in_err-bound_in-in-P
returns-in_err-bound_in-in-P c = inr (inr (inl (search rules, search (rules, c.in_err-bound_in-in-P.ensures Post))))

pub returns-in_err-bound_in-in-Q : goal.returns-in_err-bound_in-in-Q
returns-in_err-bound_in-in-Q c = inr (inr (inr (inl (search rules, search (rules, c.in_err-bound_in-in-Q.ensures Try)))))

pub returns-in_ok-points_in-in-T : goal.returns-in_ok-points_in-in-T
returns-in_ok-points_in-in-T c = inl (search rules, search (rules, c.in_ok-points_in-in-T.ensures Ticks))

pub returns-in_ok-points_in-in-R : goal.returns-in_ok-points_in-in-R
returns-in_ok-points_in-in-R c = inr (inl (search rules, search (rules, c.in_ok-points_in-in-R.ensures Ranked)))

pub returns-in_ok-bound_in-in-P : goal.returns-in_ok-bound_in-in-P
returns-in_ok-bound_in-in-P c = inr (inr (inl (search rules, c.in_ok-bound_in-in-P.ensures Post)))

pub returns-in_ok-bound_in-in-Q : goal.returns-in_ok-bound_in-in-Q
returns-in_ok-bound_in-in-Q c = inr (inr (inr (inl (search rules, c.in_ok-bound_in-in-Q.ensures Try))))
