use Rattle.std.proofs.Common.{refl}
use Rattle.books.proofs.WordRuns.{stays_written}
use Rattle.books.proofs.lent.WordBook.open.Goals as goal

pub returns-clause-stays : goal.returns-clause-stays
returns-clause-stays c = stays_written _ _ refl c.found-counts.ensures.opened
