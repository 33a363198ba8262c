-- Why a line of a listing holds no bound: the fault of a layer below, carried whole. Assumes nothing.
use Rattle.std.specs.Prelude.{ℕ, List}
use Rattle.faults.specs.declared.Fault.{Fault}
use Rattle.bounds.specs.declared.fault.BoundFault.{BoundFault}
use Rattle.bounds.specs.Faults as bounds
use Rattle.lines.specs.declared.fault.LineFault.{LineFault}
use Rattle.lines.specs.Faults as lines
use Rattle.words.specs.declared.fault.WordFault.{WordFault}
use Rattle.words.specs.Faults as words
use Rattle.listings.specs.declared.fault.ListingFault.{ListingFault}
use Rattle.listings.specs.declared.fault.ListingFault.TheVariants.{Line, Bound, Word}

-- how a fault goes up
abbrev pub of_line : LineFault → ListingFault
of_line e = Line e

abbrev pub of_bound : BoundFault → ListingFault
of_bound e = Bound e

abbrev pub of_word : WordFault → ListingFault
of_word e = Word e

-- the number, layer and place are those of the layer below
abbrev pub fault_of : ListingFault → Fault
fault_of (Line e) = lines.fault_of e
fault_of (Bound e) = bounds.fault_of e
fault_of (Word e) = words.fault_of e

-- what is wrong, in words
abbrev pub reason_of : ListingFault → List ℕ
reason_of (Line e) = lines.reason_of e
reason_of (Bound e) = bounds.reason_of e
reason_of (Word e) = words.reason_of e
