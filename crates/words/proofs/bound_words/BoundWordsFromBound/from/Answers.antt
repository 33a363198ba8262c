use Rattle.words.proofs.Readings.{law}
use Rattle.words.proofs.bound_words.BoundWordsFromBound.from.Goals as goal

pub returns-clause-law : goal.returns-clause-law
returns-clause-law c = law
