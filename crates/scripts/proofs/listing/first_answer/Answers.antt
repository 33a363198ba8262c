use Rattle.std.proofs.Common.{subst}
use Rattle.scripts.specs.Commands.{CommandOf}
use Rattle.scripts.proofs.Beginning.{line_begun}
use Rattle.scripts.proofs.listing.first_answer.Goals as goal

pub returns-in-Ok : goal.returns-in-Ok
returns-in-Ok c line h =
    line_begun line c.in-Ok.command (subst (CommandOf line) c.in-Ok.is h) c.args.script.now c.args.place c.args.output.now c.begin.new.output c.begin.result
    c.begin.ensures
