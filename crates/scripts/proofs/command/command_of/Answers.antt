use Rattle.std.proofs.Common.{rules, eqb, subst}
use Rattle.scripts.specs.Commands.{FieldsSay}
use Rattle.scripts.proofs.Lines.{some_part}
use Rattle.scripts.proofs.Numbers.{one_byte}
use Rattle.scripts.proofs.command.command_of.Goals as goal

pub returns : goal.returns
returns c =
    subst (λ fs. FieldsSay fs c.command_in.result)
    (one_byte _ c.from.result _ _ _ (search rules) c.from.ensures c.in-Some-len1.ensures.steps c.new-fields.ensures) c.command_in.ensures

pub returns-in_default-3 : goal.returns-in_default-3
returns-in_default-3 c = absurd (some_part (λ b. eqb b 32) c.args.line.now (search rules))
