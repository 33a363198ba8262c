use Rattle.std.proofs.Common.{arith, ◌∙◌, rules}
use Rattle.std.proofs.lemmas.Bool.Decides.{nat_tests}
use Rattle.scripts.proofs.Counting.{lines_ended, lines_begun}
use Rattle.scripts.proofs.script.line_count.Goals as goal

pub returns-then-script-eq10 : goal.returns-then-script-eq10
returns-then-script-eq10 c =
    c.feed_count-count.ensures ∙ lines_ended c.args.script.now (grind (arith, nat_tests)) (search rules)

pub returns-else-script-eq10 : goal.returns-else-script-eq10
returns-else-script-eq10 c =
    let h = c.feed_count-count.ensures in omega (arith, lines_begun c.args.script.now (grind (arith, nat_tests)) (search rules))
