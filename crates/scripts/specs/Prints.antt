-- What the program prints. Assumes nothing.
use Rattle.std.specs.Prelude.{◌≡◌, ℕ, ◌<◌, ◌≤◌, ◌⊎◌, List, [], ◌∷◌, ◌++◌, length, codes}
use Rattle.scripts.specs.Lines.{script_lines}
use Rattle.scripts.specs.Listings.{ListingOf, script_bytes}

-- the most lines of a script for the program
abbrev pub program_lines : ℕ
program_lines = 1024

-- what it prints of a text that has too many bytes or lines
abbrev pub refusal_line : List ℕ
refusal_line = codes "E 14 L 0" ++ 10 ∷ []

-- what it prints of a text: its listing; or, where it has more bytes or lines than a script may have, one line that says so
abbrev pub Printed : List ℕ → List ℕ → Type 0
Printed text out =
    ((length text ≤ script_bytes) × (length (script_lines text) ≤ program_lines) × ListingOf text out)
    ⊎ (((script_bytes < length text) ⊎ (program_lines < length (script_lines text))) × (out ≡ refusal_line))
