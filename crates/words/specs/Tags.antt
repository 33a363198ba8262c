-- The words of a bound by name. Assumes nothing.
use Rattle.std.specs.Prelude.{ℕ}
use Rattle.words.specs.declared.tag.Tag.{Tag}
use Rattle.words.specs.declared.tag.Tag.TheVariants.{Head, T, S}

-- the word's two top bits, as a number
abbrev pub bits_of : Tag → ℕ
bits_of Head = 1
bits_of T = 2
bits_of S = 3
