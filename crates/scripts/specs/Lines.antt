-- The lines of a script. Assumes nothing.
use Rattle.std.specs.Prelude.{ℕ, List, [], ◌∷◌, ◌==◌}
use Rattle.std.specs.List.{slice_split}

-- what has begun of a line, as a line where it is not empty
abbrev pub begun : List ℕ → List (List ℕ)
begun [] = []
begun (b ∷ bs) = (b ∷ bs) ∷ []

-- all the parts, of which the last is a line only where it has begun
abbrev pub lines_of : List (List ℕ) → List (List ℕ)
lines_of [] = []
lines_of (last ∷ []) = begun last
lines_of (first ∷ (next ∷ parts)) = first ∷ lines_of (next ∷ parts)

-- the lines of a script: a line feed, which is byte 10, ends a line, and no line begins at the end
abbrev pub script_lines : List ℕ → List (List ℕ)
script_lines script = lines_of (slice_split (λ b. b == 10) script)
