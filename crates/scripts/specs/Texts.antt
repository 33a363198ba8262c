-- What is printed of an answer. Assumes nothing.
use Rattle.std.specs.Prelude.{ℕ, List, [], ◌∷◌, ◌++◌, ℤ, pos, ◌+ℤ◌, ◌*ℤ◌, ◌≤ℤ◌, ◌<ℤ◌, codes, decimal}
use Rattle.std.specs.Int.{int_div_euclid}
use Rattle.std.specs.Fmt.{signed_decimal}
use Rattle.faults.specs.Faults.{letter_of}
use Rattle.scripts.specs.declared.answer.Answer.{Answer}
use Rattle.scripts.specs.declared.answer.Answer.TheVariants.{Settled, Moved, Covered, Conflict, Time, Refused}

-- the words, with a space between each two
abbrev pub spaced : List (List ℕ) → List ℕ
spaced [] = []
spaced (w ∷ []) = w
spaced (w ∷ (v ∷ ws)) = w ++ (codes " " ++ spaced (v ∷ ws))

-- milliseconds in hundredths of a second, halves up: a tenth of t and 5, rounded down
abbrev pub hundredths : ℤ → ℤ
hundredths t = int_div_euclid (t +ℤ pos 5) (pos 10)

-- h hundredths of a second are the nearest to t milliseconds, halves up: t is at least 10h - 5, and less than 10h + 5
abbrev pub NearestHundredth : ℤ → ℤ → Type 0
NearestHundredth t h = ((pos 10 *ℤ h) ≤ℤ (t +ℤ pos 5)) × (t <ℤ ((pos 10 *ℤ h) +ℤ pos 5))

-- the letter of the answer, and its numbers
abbrev pub answer_text : Answer → List ℕ
answer_text (Settled count) = spaced (codes "S" ∷ (decimal count ∷ []))
answer_text (Moved count) = spaced (codes "A" ∷ (decimal count ∷ []))
answer_text Covered = codes "C"
answer_text Conflict = codes "X"
answer_text (Time point t s) = spaced (codes "W" ∷ (decimal point ∷ (signed_decimal t ∷ (signed_decimal s ∷ (signed_decimal (hundredths t) ∷ [])))))
answer_text (Refused f) = spaced (codes "E" ∷ (decimal f.number ∷ ((letter_of f.layer ∷ []) ∷ (decimal f.place ∷ []))))

-- a line of the listing: the number of the script's line, and its answer
abbrev pub line_text : ℕ → Answer → List ℕ
line_text number a = spaced (decimal number ∷ (answer_text a ∷ [])) ++ 10 ∷ []
