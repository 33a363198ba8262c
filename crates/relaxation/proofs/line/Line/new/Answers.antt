use Rattle.std.proofs.Common.{arith}
use Rattle.relaxation.proofs.Lining.{kept_none, untaken_none}
use Rattle.relaxation.proofs.line.Line.new.Goals as goal

pub invariant_of-result : goal.invariant_of-result
invariant_of-result c = (omega arith, kept_none _)

pub returns : goal.returns
returns c = untaken_none _
