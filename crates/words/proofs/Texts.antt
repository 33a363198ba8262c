-- A word's eight digits are what `{:08X}` prints of it. Assumes nothing.
use Rattle.std.proofs.Common.{◌≡◌, ℕ, zero, suc, ◌+◌, ◌-◌, ◌*◌, ◌/◌, ◌%◌, ◌^◌, ◌<◌, List, [], ◌∷◌, ◌++◌, length, replicate, true, false, nat_eq, sym, refl, ap}
use Rattle.std.proofs.Common.{subst, ◌∙◌, append_assoc, append-nil, pow-suc, arith}
use native.Mathlib.Nat.{div-div-eq-div-mul, zero-div}
use Rattle.std.proofs.lemmas.Bool.Decides.{nat_tests}
use Rattle.std.specs.Fmt.{digits, digits_onto, digit_glyph, char_count, padded_integral, format_spec}
use Rattle.words.specs.Text.{hex_digits, hex_text}

-- the lowest digit is the last
hex_digits_last : (k w : ℕ) → hex_digits (suc k) w ≡ hex_digits k (w / 16) ++ (digit_glyph true (w % 16) ∷ [])
hex_digits_last zero w = ap (λ d. digit_glyph true (d % 16) ∷ []) (omega arith)
hex_digits_last (suc k) w =
    let turned : 16 ^ suc k ≡ 16 * 16 ^ k = omega (arith, pow-suc 16 k) in
    let above : w / 16 ^ suc k ≡ w / 16 / 16 ^ k = ap (λ d. w / d) turned ∙ sym (div-div-eq-div-mul w 16 (16 ^ k)) in
    ap (λ d. digit_glyph true (d % 16) ∷ hex_digits (suc k) w) above ∙ ap (λ ds. digit_glyph true (w / 16 / 16 ^ k % 16) ∷ ds) (hex_digits_last k w)

-- zero has zeros for digits
hex_digits_zero : (k : ℕ) → hex_digits k 0 ≡ replicate k 48
hex_digits_zero zero = refl
hex_digits_zero (suc k) =
    let none : 0 / 16 ^ k ≡ 0 = zero-div (16 ^ k) in
    ap (λ d. digit_glyph true (d % 16) ∷ hex_digits k 0) none ∙ ap (λ ds. 48 ∷ ds) (hex_digits_zero k)

-- what is printed of n before acc, after zeros up to k + 1 digits, is its k + 1 digits
abbrev Padded : ℕ → ℕ → ℕ → List ℕ → Type 0
Padded k f n acc =
    replicate (suc k + length acc - length (digits_onto f 16 true n acc)) 48 ++ digits_onto f 16 true n acc ≡ hex_digits (suc k) n ++ acc

-- the digits before acc, the lowest of them told apart
lowest_apart : (k n : ℕ) (acc : List ℕ) → hex_digits (suc k) n ++ acc ≡ hex_digits k (n / 16) ++ (digit_glyph true (n % 16) ∷ acc)
lowest_apart k n acc = ap (λ ds. ds ++ acc) (hex_digits_last k n) ∙ append_assoc (hex_digits k (n / 16)) (digit_glyph true (n % 16) ∷ []) acc

-- one step prints the lowest digit; nothing but zeros stands before the last one
padded_step : (k f n : ℕ) (acc : List ℕ) (m : ℕ) → n / 16 ≡ m → n < 16 ^ suc k
    → ((j : ℕ) → k ≡ suc j → Padded j f (n / 16) (digit_glyph true (n % 16) ∷ acc)) → Padded k (suc f) n acc
padded_step k f n acc zero e small more =
    let low = digit_glyph true (n % 16) ∷ acc in
    let last : digits_onto (suc f) 16 true n acc ≡ low = rw e in
    let zeros : hex_digits k (n / 16) ≡ replicate k 48 = ap (hex_digits k) e ∙ hex_digits_zero k in
    let many : suc k + length acc - suc (length acc) ≡ k = omega arith in
    ap (λ ds. replicate (suc k + length acc - length ds) 48 ++ ds) last
    ∙ ap (λ j. replicate j 48 ++ low) many ∙ sym (lowest_apart k n acc ∙ ap (λ ds. ds ++ low) zeros)
padded_step zero f n acc (suc m) e small more = absurd (omega arith)
padded_step (suc j) f n acc (suc m) e small more =
    let low = digit_glyph true (n % 16) ∷ acc in
    let left = digits_onto f 16 true (n / 16) low in
    let next : digits_onto (suc f) 16 true n acc ≡ left = let other : nat_eq (n / 16) 0 ≡ false = grind (arith, nat_tests) in rw other in
    let many : suc (suc j) + length acc ≡ suc j + suc (length acc) = omega arith in
    ap (λ ds. replicate (suc (suc j) + length acc - length ds) 48 ++ ds) next
    ∙ ap (λ i. replicate (i - length left) 48 ++ left) many ∙ more j refl ∙ sym (lowest_apart (suc j) n acc)

padded_digits : (k f n : ℕ) (acc : List ℕ) → k < f → n < 16 ^ suc k → Padded k f n acc
padded_digits k zero n acc room small = absurd (omega arith)
padded_digits k (suc f) n acc room small =
    padded_step k f n acc (n / 16) refl small (λ j e. padded_digits j f (n / 16) (digit_glyph true (n % 16) ∷ acc) (omega arith) (smaller j e))
  where
    smaller : (j : ℕ) → k ≡ suc j → n / 16 < 16 ^ suc j
    smaller j e =
        let below : n < 16 ^ suc (suc j) = subst (λ i. n < 16 ^ suc i) e small in
        let more = pow-suc 16 (suc j) in
        omega arith

-- the padding of a number under `{:08X}`
padded_zeros : (ds : List ℕ) → padded_integral (format_spec 32 0 4 8 (2 ^ 64 - 1)) false [] ds ≡ replicate (8 - length ds) 48 ++ ds
unfolding padded_integral char_count
padded_zeros ds = ap (λ n. replicate n 48 ++ (ds ++ [])) (omega arith) ∙ ap (λ x. replicate (8 - length ds) 48 ++ x) (append-nil ds)

-- what `{:08X}` prints of a word
pub hex_printed : (w : ℕ) → w < 2 ^ 32 → padded_integral (format_spec 32 0 4 8 (2 ^ 64 - 1)) false [] (digits 16 true w) ≡ hex_text w
unfolding digits
hex_printed w small = padded_zeros (digits 16 true w) ∙ padded_digits 7 64 w [] (omega arith) (omega arith) ∙ append-nil (hex_digits 8 w)
