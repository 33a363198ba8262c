-- Texts that are put one after another. Assumes nothing.
use Rattle.std.proofs.Common.{◌≡◌, ℕ, ◌+◌, ◌≤◌, ◌<◌, List, [], ◌∷◌, ◌++◌, length, take, drop, set, decimal, ◌/◌, ◌%◌, ◌^◌}
use Rattle.std.proofs.Common.{ℤ, pos, negsuc, true, false, leb, refl, sym, ap, ◌∙◌, subst, arith}
use Rattle.std.proofs.lemmas.Grind.{take-set_at}
use Rattle.std.proofs.lemmas.List.{length-append, length-take-le, append_assoc, take_at, length-drop, drop-set-lt, take-append-drop}
use Rattle.std.proofs.lemmas.Slice.{drop-append-drop}
use Rattle.std.specs.Prelude.{unsigned_abs}
use Rattle.std.specs.Fmt.{signed_decimal}
use Rattle.std.specs.Int.Signed.{le_z}
use Rattle.std.proofs.lemmas.Bool.{le-leb}
use Rattle.std.proofs.lemmas.Fmt.{decimal_digit, decimal_step}
use Rattle.scripts.specs.Puts.{Puts}

-- one byte
pub puts_byte : (before : List ℕ) (from byte : ℕ) → from < length before → Puts before from (byte ∷ []) (set before from byte) (from + 1)
puts_byte before from byte room = record {
  output = sym (take-append-drop (from + 1) (set before from byte))
      ∙ ap (λ xs. xs ++ drop (from + 1) (set before from byte)) (take-set_at before from (from + 1) byte refl room)
      ∙ ap (λ xs. (take from before ++ byte ∷ []) ++ xs) (drop-set-lt (from + 1) before from byte (omega arith))
      ∙ append_assoc (take from before) (byte ∷ []) (drop (from + 1) before);
  ends = refl;
  inside = omega (arith, room);
}

-- a text that is written otherwise
pub puts_same : {before after s t : List ℕ} {from to : ℕ} → Puts before from s after to → s ≡ t → Puts before from t after to
puts_same {before} {after} {s} {t} {from} {to} p e = subst (λ (text : List ℕ). Puts before from text after to) e p

-- the second text is put where the first ends
pub puts_more : {before middle after s t : List ℕ} {from mid to : ℕ} → Puts before from s middle mid → Puts middle mid t after to
    → Puts before from (s ++ t) after to
puts_more {before} {middle} {after} {s} {t} {from} {mid} {to} p q =
    let front : List ℕ = take from before ++ s in
    let mid_is : mid ≡ from + length s = p.ends in
    let to_is : to ≡ mid + length t = q.ends in
    let room : mid ≤ length before = p.inside in
    let size : length front ≡ mid =
    omega (arith, length-append (take from before) s, length-take-le from before (omega (arith, mid_is, room)), mid_is) in
    let made : middle ≡ front ++ drop mid before = p.output ∙ sym (append_assoc (take from before) s (drop mid before)) in
    let long : length middle ≡ length before =
    ap length made ∙ omega (arith, length-append front (drop mid before), length-drop mid before, size, room) in
    let start : take mid middle ≡ front = ap (take mid) made ∙ take_at front (drop mid before) mid size in
    let rest : drop to middle ≡ drop to before =
    ap (drop to) made ∙ drop-append-drop mid before front to (omega (arith, to_is)) size in
    record {
      output = q.output ∙ ap (λ xs. xs ++ (t ++ drop to middle)) start ∙ ap (λ xs. front ++ (t ++ xs)) rest
          ∙ append_assoc (take from before) s (t ++ drop to before) ∙ ap (λ xs. take from before ++ xs) (sym (append_assoc s t (drop to before)));
      ends = omega (arith, mid_is, to_is, length-append s t);
      inside = omega (arith, q.inside, long);
    }

-- a number of one digit
pub puts_figure : {before after : List ℕ} {from to : ℕ} (n : ℕ) → n < 10 → Puts before from ((48 + n) ∷ []) after to → Puts before from (decimal n) after to
puts_figure n small p = puts_same p (sym (decimal_digit n small))

-- the last digit of a number, after those before it
pub puts_last : {before middle after : List ℕ} {from mid to : ℕ} (n : ℕ) → 10 ≤ n → n < 2 ^ 64 → Puts before from (decimal (n / 10)) middle mid
    → Puts middle mid ((48 + n % 10) ∷ []) after to → Puts before from (decimal n) after to
puts_last n more fits p q = puts_same (puts_more p q) (sym (decimal_step n more fits))

-- a number below zero is its size after a minus
pub negative : (z : ℤ) (size : ℕ) → le_z (pos 0) z ≡ false → size ≡ unsigned_abs z → 45 ∷ decimal size ≡ signed_decimal z
negative (pos n) size below is = let above : leb 0 n ≡ true = le-leb 0 n (omega arith) in absurd (cc)
negative (negsuc n) size below is = ap (λ k. 45 ∷ decimal k) is
