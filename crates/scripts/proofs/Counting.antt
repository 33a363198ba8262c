-- Lines are counted by their line feeds. Assumes nothing.
use Rattle.std.proofs.Common.{◌≡◌, ℕ, ◌+◌, ◌-◌, ◌<◌, Bool, true, false, eqb, cond, List, [], ◌∷◌, length, get_or, count_by, take, drop, ap, sym, ◌∙◌, refl, arith}
use Rattle.std.specs.List.{slice_split, onto_first}
use Rattle.std.proofs.lemmas.Bool.{eq-eqb, ne_eqb}
use Rattle.std.proofs.lemmas.List.{take-append-drop}
use Rattle.std.proofs.lemmas.List.Sums.{sum_by-cons, sum_by-append}
use Rattle.scripts.specs.Lines.{lines_of, script_lines}
use Rattle.scripts.proofs.Lines.{some_part, more_lines}

-- a line feed
abbrev feed : ℕ → Bool
feed b = eqb b 10

-- those of a list are those of its front, and of the rest
pub counted_apart : (n : ℕ) (bs : List ℕ) → count_by feed (take n bs) + count_by feed (drop n bs) ≡ count_by feed bs
counted_apart n bs = sym (sum_by-append (λ b. cond (feed b) 1 0) (take n bs) (drop n bs)) ∙ ap (count_by feed) (take-append-drop n bs)

-- the last of some bytes
last_of : ℕ → List ℕ → ℕ
last_of b [] = b
last_of b (c ∷ cs) = last_of c cs

last_at : (b : ℕ) (bs : List ℕ) → last_of b bs ≡ get_or (b ∷ bs) (length bs) 0
unfolding last_of
last_at b [] = refl
last_at b (c ∷ cs) = last_at c cs

-- a byte in front of a line makes no line more
same_lines : (b c : ℕ) (parts : List (List ℕ)) (t : Bool) → (parts ≡ [] → ⊥)
    → length (lines_of (onto_first b (cond t ([] ∷ parts) (onto_first c parts)))) ≡ length (lines_of (cond t ([] ∷ parts) (onto_first c parts)))
same_lines b c [] t some = absurd (some refl)
same_lines b c (p ∷ ps) true some = refl
same_lines b c (p ∷ []) false some = refl
same_lines b c (p ∷ (q ∷ ps)) false some = refl

-- a byte in front of some bytes: a line more where it is a line feed
front_byte : (b c : ℕ) (cs : List ℕ) (t : Bool)
    → length (lines_of (cond t ([] ∷ slice_split feed (c ∷ cs)) (onto_first b (slice_split feed (c ∷ cs))))) ≡ cond t 1 0 + length (script_lines (c ∷ cs))
front_byte b c cs true =
    ap length (more_lines [] (slice_split feed (c ∷ cs)) (some_part feed (c ∷ cs))) ∙ omega arith
front_byte b c cs false = same_lines b c (slice_split feed cs) (feed c) (some_part feed cs) ∙ omega arith

one_byte : (b : ℕ) (t : Bool) → length (lines_of (cond t ([] ∷ ([] ∷ [])) (onto_first b ([] ∷ [])))) ≡ cond t 1 0 + cond t 0 1
one_byte b true = refl
one_byte b false = refl

counted : (b : ℕ) (bs : List ℕ) → length (script_lines (b ∷ bs)) ≡ count_by feed (b ∷ bs) + cond (feed (last_of b bs)) 0 1
unfolding last_of
counted b [] = let front = sum_by-cons (λ b. cond (feed b) 1 0) b [] in omega (arith, front, one_byte b (feed b))
counted b (c ∷ cs) =
    let front = sum_by-cons (λ b. cond (feed b) 1 0) b (c ∷ cs) in omega (arith, front, front_byte b c cs (feed b), counted c cs)

module _ (b : ℕ) (bs : List ℕ) where
  last_byte : last_of b bs ≡ get_or (b ∷ bs) (length (b ∷ bs) - 1) 0
  last_byte = let place : length (b ∷ bs) - 1 ≡ length bs = omega arith in last_at b bs ∙ ap (λ k. get_or (b ∷ bs) k 0) (sym place)

  at_last : (t : Bool) → feed (last_of b bs) ≡ t → length (script_lines (b ∷ bs)) ≡ count_by feed (b ∷ bs) + cond t 0 1
  at_last t e = counted b bs ∙ ap (λ u. count_by feed (b ∷ bs) + cond u 0 1) e

-- where the last byte is a line feed, there is a line for each of them
pub lines_ended : (bs : List ℕ) → 0 < length bs → get_or bs (length bs - 1) 0 ≡ 10 → count_by feed bs ≡ length (script_lines bs)
lines_ended [] some last = absurd (omega arith)
lines_ended (b ∷ bs) some last =
    let all : length (script_lines (b ∷ bs)) ≡ count_by feed (b ∷ bs) + 0 = at_last b bs true (eq-eqb _ 10 (last_byte b bs ∙ last)) in
    sym (all ∙ omega arith)

-- and otherwise one more
pub lines_begun : (bs : List ℕ) → 0 < length bs → (get_or bs (length bs - 1) 0 ≡ 10 → ⊥) → count_by feed bs + 1 ≡ length (script_lines bs)
lines_begun [] some last = absurd (omega arith)
lines_begun (b ∷ bs) some last = sym (at_last b bs false (ne_eqb _ 10 (λ e. last (sym (last_byte b bs) ∙ e))))
