-- The bytes of a line that are kept as it comes byte by byte. Assumes nothing.
use Rattle.std.specs.Prelude.{ℕ, List}
use Rattle.lines.specs.declared.line.Line.{Line}

-- the bytes that are kept
abbrev pub kept : Line → List ℕ
kept l = l.bytes.items
