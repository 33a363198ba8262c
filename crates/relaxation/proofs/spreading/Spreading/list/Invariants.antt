use Rattle.std.proofs.Common.{take}
use Rattle.books.specs.Meaning.{bounds_of}
use Rattle.relaxation.specs.ByLeft.{Lists}
use Rattle.relaxation.proofs.Listing.{lefts_of}
use Rattle.relaxation.proofs.spreading.Spreading.list.Given as goal

abbrev pub invariant-loop-number : goal.invariant-loop-number
invariant-loop-number g l = Lists l.index (take l.number (lefts_of (bounds_of (g.B.Book.meaning l.bounds.book.now))))
