-- The fields of a line: the parts between single spaces. Assumes nothing.
use Rattle.std.specs.Prelude.{ℕ, List, [], Some, None, Option, ◌==◌}
use Rattle.std.specs.Borrow.{Bor}
use Rattle.std.specs.List.{slice_split}
use Rattle.lines.specs.declared.fields.Fields.{Fields}

-- the fields of a line, at least one: a space, which is byte 32, ends a field, and every other byte stands in one
abbrev pub fields : List ℕ → List (List ℕ)
fields = slice_split (λ c. c == 32)

-- the fields of what is left of a line, of which there are none where nothing is left
abbrev pub left_in : Option (Bor (List ℕ)) → List (List ℕ)
left_in None = []
left_in (Some r) = fields r.now

-- the fields that are left to read
abbrev pub left_of : Fields → List (List ℕ)
left_of s = left_in s.rest
