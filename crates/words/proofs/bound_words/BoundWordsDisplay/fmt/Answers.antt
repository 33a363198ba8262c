use Rattle.std.proofs.Common.{rules}
use Rattle.words.proofs.Texts.{hex_printed}
use Rattle.words.proofs.bound_words.BoundWordsDisplay.fmt.Goals as goal

pub returns-clause-writes : goal.returns-clause-writes
returns-clause-writes g c = search (rules, hex_printed)
