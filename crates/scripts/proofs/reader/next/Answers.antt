use Rattle.std.proofs.Common.{sym, ◌∙◌}
use Rattle.scripts.proofs.FieldReads.{next_lacking}
use Rattle.scripts.proofs.reader.next.Goals as goal

pub returns-in-None : goal.returns-in-None
returns-in-None c =
    next_lacking c.args.script.now c.args.at c.args.before c.unreadable.result (sym c.byte_at.ensures ∙ c.in-32.is) c.in-None.ensures c.unreadable.ensures
