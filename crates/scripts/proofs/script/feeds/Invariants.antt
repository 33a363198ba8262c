use Rattle.std.proofs.Common.{◌≡◌, eqb, count_by, take}
use Rattle.scripts.proofs.script.feeds.Given as goal

abbrev pub invariant-loop-b : goal.invariant-loop-b
invariant-loop-b l = l.count ≡ count_by (λ b. eqb b 10) (take l.b-index l.block)
