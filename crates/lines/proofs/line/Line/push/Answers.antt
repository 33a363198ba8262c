use Rattle.std.proofs.Common.{◌≡◌, ◌<◌, length, sym, ◌∙◌, arith}
use Rattle.std.proofs.lemmas.Bool.Decides.{nat_tests}
use Rattle.std.proofs.lemmas.List.{take_all, take_at, length_push}
use Rattle.lines.specs.Kept.{kept}
use Rattle.lines.proofs.Keeping.{keeps_front}
use Rattle.lines.proofs.line.Line.push.Goals as goal

pub returns-then-not-is_full : goal.returns-then-not-is_full
returns-then-not-is_full c =
    let old = kept c.args.self.now in
    let room : length old < 48 = grind (arith, nat_tests) in
    let adds = c.push.ensures.items ∙ sym (take_all 48 _ (omega (arith, length_push old c.args.b))) in
    record { adds = adds; front = λ whole e. keeps_front 48 old _ whole c.args.b adds e }

pub returns-else-not-is_full : goal.returns-else-not-is_full
returns-else-not-is_full c =
    let old = kept c.args.self.now in
    let full : length old ≡ 48 = grind (arith, nat_tests) in
    let adds = sym (take_at old _ 48 full) in
    record { adds = adds; front = λ whole e. keeps_front 48 old _ whole c.args.b adds e }
