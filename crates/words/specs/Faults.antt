-- The fault of words that hold no rows: its number, layer and place, and its words. Assumes nothing.
use Rattle.std.specs.Prelude.{ℕ, List, codes}
use Rattle.faults.specs.declared.Fault.{Fault}
use Rattle.faults.specs.declared.Layer.TheVariants.{Books}
use Rattle.words.specs.declared.fault.WordFault.{WordFault}
use Rattle.words.specs.declared.fault.WordFault.TheVariants.{Length, Word}

-- the length that is no multiple of three, or the word that breaks its row
abbrev pub place_of : WordFault → ℕ
place_of (Length words) = words
place_of (Word place) = place

-- every such fault is number 13 of the layer of books
abbrev pub fault_of : WordFault → Fault
fault_of e = record { number = 13; layer = Books; place = place_of e }

-- what is wrong, in words
abbrev pub reason_of : WordFault → List ℕ
reason_of (Length words) = codes "the number of words is no multiple of three"
reason_of (Word place) = codes "the word breaks its row"
