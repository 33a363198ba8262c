use Rattle.std.proofs.Common.{refl, rules}
use Rattle.std.proofs.lemmas.Result.{IfOk-weaker}
use Rattle.listings.proofs.Pieces.{follows_byte, follows_line}
use Rattle.listings.proofs.tool.Tool.step.Goals as goal

pub returns-then-ends_line : goal.returns-then-ends_line
returns-then-ends_line c =
    IfOk-weaker c.end_line.result _ _
    (λ x tells. follows_line c.args.self.now c.end_line.new.self c.args.b _ (search rules) c.end_line.ensures.task c.end_line.ensures.line tells)
    c.end_line.ensures.tells

pub returns-else-ends_line : goal.returns-else-ends_line
returns-else-ends_line c =
    follows_byte c.args.self.now _ c.args.b _ (search rules) c.new.ensures.bytes refl refl c.push.ensures.front
