-- A row as text. Assumes nothing.
use Rattle.std.specs.Prelude.{ℕ, List, ◌++◌, codes, decimal}
use Rattle.std.specs.Fmt.{signed_decimal}
use Rattle.bounds.specs.declared.row.Row.{Row}

-- the four numbers in decimal, a space between each two: `left right t s`
abbrev pub row_text : Row → List ℕ
row_text r = decimal r.left ++ (codes " " ++ (decimal r.right ++ (codes " " ++ (signed_decimal r.t ++ (codes " " ++ signed_decimal r.s)))))
