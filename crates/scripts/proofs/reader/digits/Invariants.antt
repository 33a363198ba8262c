use Rattle.std.proofs.Common.{◌-◌}
use Rattle.scripts.proofs.Cursors.{DigitsUpto}
use Rattle.scripts.proofs.reader.digits.Given as goal

abbrev pub invariant-digits : goal.invariant-digits
invariant-digits l = DigitsUpto l.script l.first l.value l.end

abbrev pub decreases-digits : goal.decreases-digits
decreases-digits l = l.limit - l.end
