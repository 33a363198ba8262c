-- How a refusal is told: a number, the letter of its layer, a place. Assumes nothing.
use Rattle.std.specs.Prelude.{ℕ, List, ◌++◌, codes, decimal}
use Rattle.std.proofs.Math.Utf8.{encode}
use Rattle.faults.specs.declared.Layer.{Layer}
use Rattle.faults.specs.declared.Layer.TheVariants.{Bounds, Kinds, Books, Plans, Lines}
use Rattle.faults.specs.declared.Fault.{Fault}

-- the character of each layer's letter: D, K, B, P, L
abbrev pub letter_of : Layer → ℕ
letter_of Bounds = 68
letter_of Kinds = 75
letter_of Books = 66
letter_of Plans = 80
letter_of Lines = 76

-- the bytes of a fault in a sentence, as "fault 7, layer D, place 1"
abbrev pub fault_text : Fault → List ℕ
fault_text f = codes "fault " ++ (decimal f.number ++ (codes ", layer " ++ (encode (letter_of f.layer) ++ (codes ", place " ++ decimal f.place))))
