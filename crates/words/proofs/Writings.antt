-- Laws of the writing of rows. Assumes nothing.
use Rattle.std.proofs.Common.{◌≡◌, ℕ, zero, suc, ◌*◌, ◌^◌, ◌<◌, ◌≤◌, List, [], ◌∷◌, ◌++◌, length, get_or, drop, ℤ, pos, negsuc, sym, refl, ap, ◌∙◌}
use Rattle.std.proofs.Common.{append_assoc, arith}
use Rattle.std.proofs.lemmas.List.{flat_map_more}
use Rattle.std.proofs.lemmas.Int.{ints}
use Rattle.bounds.specs.declared.row.Row.{Row}
use Rattle.bounds.specs.Range.{Part, Sound}
use Rattle.bounds.proofs.Makes.{row_same}
use Rattle.words.specs.Words.{twos, head_word, part_word, row_words, writing}
use Rattle.words.specs.Reading.{FitsAt}

-- one row more
pub writing_push : (rows : List Row) (r : Row) (rest : List ℕ) → writing rows ++ (row_words r ++ rest) ≡ writing (rows ++ (r ∷ [])) ++ rest
writing_push rows r rest = sym (append_assoc (writing rows) (row_words r) rest) ∙ ap (λ x. x ++ rest) (flat_map_more row_words [] rows r)

pub length-writing : (rows : List Row) → length (writing rows) ≡ 3 * length rows
length-writing [] = refl
length-writing (r ∷ rows) = let more = length-writing rows in omega arith

-- a part fits 30 bits
pub twos_small : (z : ℤ) → Part z → twos z < 2 ^ 30
twos_small (pos n) h = omega (arith, ints)
twos_small (negsuc n) h = omega (arith, ints)

-- a word holds one part at most
same_part : (tag : ℕ) (y z : ℤ) → Part y → Part z → part_word tag y ≡ part_word tag z → y ≡ z
same_part tag (pos m) (pos n) p q e = ap pos (omega arith)
same_part tag (pos m) (negsuc n) p q e = absurd (let k : ⊥ = omega (arith, ints) in k)
same_part tag (negsuc m) (pos n) p q e = absurd (let k : ⊥ = omega (arith, ints) in k)
same_part tag (negsuc m) (negsuc n) p q e = ap negsuc (omega (arith, ints))

-- three words are those of one row at most
pub same_row : (a b : Row) (xs ys : List ℕ) → Sound a → Sound b → row_words a ++ xs ≡ row_words b ++ ys → (a ≡ b) × (xs ≡ ys)
same_row a b xs ys (l, r, t, s) (l', r', t', s') e =
    let head : head_word a.left a.right ≡ head_word b.left b.right = cc in
    let t_word : part_word 2 a.t ≡ part_word 2 b.t = cc in
    let s_word : part_word 3 a.s ≡ part_word 3 b.s = cc in
    let same = row_same a b (omega arith) (omega arith) (same_part 2 a.t b.t t t' t_word) (same_part 3 a.s b.s s s' s_word) in
    (same, cc)

-- no word of a bound's row breaks it
pub row_fits : (r : Row) (xs : List ℕ) (k : ℕ) → Sound r → k < 3 → FitsAt k (get_or (row_words r ++ xs) k 0)
row_fits r xs zero i h = (r.left, r.right, i.0, i.1, refl)
row_fits r xs (suc zero) i h = (r.t, i.2, refl)
row_fits r xs (suc (suc zero)) i h = (r.s, i.3, refl)
row_fits r xs (suc (suc (suc k))) i h = absurd (let e : ⊥ = omega arith in e)

-- the first three words and the rest
pub front3 : (ws : List ℕ) → 3 ≤ length ws → ws ≡ get_or ws 0 0 ∷ (get_or ws 1 0 ∷ (get_or ws 2 0 ∷ drop 3 ws))
front3 [] h = absurd (let e : ⊥ = omega arith in e)
front3 (a ∷ []) h = absurd (let e : ⊥ = omega arith in e)
front3 (a ∷ (b ∷ [])) h = absurd (let e : ⊥ = omega arith in e)
front3 (a ∷ (b ∷ (x ∷ ws))) h = refl
