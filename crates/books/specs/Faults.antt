-- The fault of a book: its number, layer and place, and its words. Assumes nothing.
use Rattle.std.specs.Prelude.{ℕ, List, codes}
use Rattle.faults.specs.declared.Fault.{Fault}
use Rattle.faults.specs.declared.Layer.TheVariants.{Books}
use Rattle.books.specs.declared.fault.BookFault.{BookFault}
use Rattle.books.specs.declared.fault.BookFault.TheVariants.{Full}

-- a bound for which no place is free: number 9 of the layer of books, and no place is named
abbrev pub fault_of : BookFault → Fault
fault_of Full = record { number = 9; layer = Books; place = 0 }

-- what is wrong, in words
abbrev pub reason_of : BookFault → List ℕ
reason_of Full = codes "the book has no free place"
