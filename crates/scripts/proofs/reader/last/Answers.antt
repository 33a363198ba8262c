use Rattle.std.proofs.Common.{sym, ◌∙◌}
use Rattle.scripts.proofs.FieldReads.{last_extra}
use Rattle.scripts.proofs.reader.last.Goals as goal

pub returns-in-32 : goal.returns-in-32
returns-in-32 c =
    last_extra c.args.script.now c.args.at c.args.before c.unreadable.result (sym c.byte_at.ensures ∙ c.in-32.is) c.unreadable.ensures
