use Rattle.std.proofs.Common.{◌≡◌, ◌+◌, ◌≤◌, eqb, count_by, length}
use Rattle.scripts.proofs.script.feed_count.Given as goal

abbrev pub invariant-parts : goal.invariant-parts
invariant-parts l = record {
  counted : l.count + count_by (λ b. eqb b 10) l.left ≡ count_by (λ b. eqb b 10) l.script;
  few : l.count + length l.left ≤ length l.script;
}

abbrev pub decreases-parts : goal.decreases-parts
decreases-parts l = length l.left
