use Rattle.std.proofs.Common.{arith, rules}
use Rattle.scripts.specs.declared.program.TheConstants.{INPUT_BYTES}
use Rattle.scripts.proofs.Printing.{prints_listing, prints_refusal}
use Rattle.scripts.proofs.program.print_into.Goals as goal

pub returns-in-Ok-clause-printed : goal.returns-in-Ok-clause-printed
returns-in-Ok-clause-printed c text read =
    prints_listing INPUT_BYTES text c.args.input.now read (omega arith) _ _ c.in-Ok.length (search rules) c.in-Ok.ensures.listed

pub returns-in-Err-clause-printed : goal.returns-in-Err-clause-printed
returns-in-Err-clause-printed c text read =
    prints_refusal INPUT_BYTES text c.args.input.now read (omega arith) _ _ _ _ (search rules) c.in-Err.ensures.listed (search rules)
