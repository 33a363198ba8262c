use Rattle.std.proofs.Common.{◌+◌, ◌≤◌, length}
use Rattle.books.specs.Meaning.{bounds_of}
use Rattle.relaxation.specs.ByLeft.{Lists}
use Rattle.plans.proofs.Listing.{lefts_upto}
use Rattle.plans.proofs.listed.unlist.Given as goal

-- the bounds up to the number are listed, and it is past those that are kept
abbrev pub invariant-loop-number : goal.invariant-loop-number
invariant-loop-number g l =
    Lists l.index (lefts_upto (bounds_of (g.B.Book.meaning l.book)) l.number) × (length (g.B.Book.meaning l.book).fixed + l.added ≤ l.number)
