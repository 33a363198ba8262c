-- Words as hexadecimal text. Assumes nothing.
use Rattle.std.specs.Prelude.{ℕ, zero, suc, true, ◌/◌, ◌%◌, ◌^◌, List, [], ◌∷◌, ◌++◌, codes, slice_index}
use Rattle.std.specs.Fmt.{digit_glyph}

-- the k lowest digits of a word, the most significant first: 0 to 9, and then A to F
abbrev pub hex_digits : ℕ → ℕ → List ℕ
hex_digits zero w = []
hex_digits (suc k) w = digit_glyph true (w / 16 ^ k % 16) ∷ hex_digits k w

-- a word as eight digits
abbrev pub hex_text : ℕ → List ℕ
hex_text w = hex_digits 8 w

-- the three words of a bound, a space between each two
abbrev pub words_text : List ℕ → List ℕ
words_text ws = hex_text (slice_index ws 0) ++ (codes " " ++ (hex_text (slice_index ws 1) ++ (codes " " ++ hex_text (slice_index ws 2))))
