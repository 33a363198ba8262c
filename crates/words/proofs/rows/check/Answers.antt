use Rattle.std.proofs.Common.{rules}
use Rattle.words.proofs.Readings.{checked}
use Rattle.words.proofs.rows.check.Goals as goal

pub returns : goal.returns
returns c = checked _ _ _ (search rules) c.min.ensures c.count_rows.ensures
