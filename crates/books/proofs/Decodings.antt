-- The rows in a list of words: rows that stay, a row that is put in, and rows as chunks and as a writing. Assumes nothing.
use Rattle.std.proofs.Common.{◌≡◌, ℕ, zero, suc, ◌+◌, ◌*◌, ◌/◌, ◌<◌, ◌≤◌, List, ◌∷◌, ◌++◌, length, get_or, take, drop, None, Some, sym, refl, ap}
use Rattle.std.proofs.Common.{◌∙◌, subst, add-zero, zero-add, arith, rules}
use Rattle.std.proofs.Math.Seq.{drop-append_seam}
use Rattle.std.proofs.lemmas.List.{drop-drop, drop-take, get_or-take, length-take, length-take-le, take-take}
use Rattle.std.proofs.lemmas.List.FromFn.{length-map-range_with_len, get_or-map-range_with_len}
use Rattle.std.proofs.lemmas.Option.{slice_get-get_or, slice_get_past}
use Rattle.std.specs.List.{slice_get}
use Rattle.std.specs.Simd.{first_chunks}
use Rattle.bounds.specs.declared.row.Row.{Row}
use Rattle.bounds.specs.Range.{Sound}
use Rattle.words.specs.Words.{row_words}
use Rattle.books.specs.Decoding.{taken_apart, OfBound, words_at, row_at, rows_from, BoundsIn}

-- a bound's words are read as the bound
pub own_row : (r : Row) → Sound r → taken_apart (row_words r) ≡ r
own_row r range = search rules

pub own_words : (r : Row) → Sound r → OfBound (row_words r)
own_words r range = (subst Sound (sym (own_row r range)) range, ap row_words (own_row r range))

-- the words at a number are the chunk of that number
pub chunk_at : (k : ℕ) (ws : List ℕ) (i : ℕ) (d : List ℕ) → i < k → get_or (first_chunks 3 k ws) i d ≡ words_at ws i
chunk_at zero ws i d h = absurd (let e : ⊥ = omega arith in e)
chunk_at (suc k) ws zero d h = refl
chunk_at (suc k) ws (suc i) d h =
    let e : 3 + 3 * i ≡ 3 * suc i = omega arith in
    chunk_at k (drop 3 ws) i d (omega arith) ∙ ap (take 3) (drop-drop (3 * i) 3 ws) ∙ ap (λ j. take 3 (drop j ws)) e

-- words that begin with the same rows
module _ (ws vs : List ℕ) (n : ℕ) (same : take (3 * n) vs ≡ take (3 * n) ws) where
  pub same_words : (i : ℕ) → i < n → words_at vs i ≡ words_at ws i
  same_words i h =
      let front : take (3 * i + 3) vs ≡ take (3 * i + 3) ws
      = sym (take-take (3 * i + 3) (3 * n) vs (omega arith)) ∙ ap (take (3 * i + 3)) same ∙ take-take (3 * i + 3) (3 * n) ws (omega arith) in
      sym (drop-take (3 * i) 3 vs) ∙ ap (drop (3 * i)) front ∙ drop-take (3 * i) 3 ws

  pub same_bounds : BoundsIn ws n → BoundsIn vs n
  same_bounds b i h = subst OfBound (sym (same_words i h)) (b i h)

  pub same_rows : (a m : ℕ) → a + m ≤ n → rows_from vs a m ≡ rows_from ws a m
  same_rows a zero h = refl
  same_rows a (suc m) h =
      let e = ap taken_apart (same_words a (omega arith)) in
      let es = same_rows (a + 1) m (omega arith) in
      cc

-- a row that stands after n rows
module _ (ws vs : List ℕ) (n : ℕ) (row : Row) (long : 3 * n ≤ length ws) (there : take (3 * n + 3) vs ≡ take (3 * n) ws ++ row_words row) where
  pub words_there : words_at vs n ≡ row_words row
  words_there =
      let e : length (take (3 * n) ws) ≡ 3 * n = length-take-le (3 * n) ws long in
      sym (drop-take (3 * n) 3 vs) ∙ ap (drop (3 * n)) there ∙ ap (λ k. drop k (take (3 * n) ws ++ row_words row)) (sym e)
      ∙ drop-append_seam (take (3 * n) ws) (row_words row)

-- n rows are n
pub row_count : (ws : List ℕ) (a n : ℕ) → length (rows_from ws a n) ≡ n
row_count ws a n = length-map-range_with_len (row_at ws) a n

-- rows and the rows after them are one list
pub rows_joined : (ws : List ℕ) (a f n : ℕ) → rows_from ws a f ++ rows_from ws (a + f) n ≡ rows_from ws a (f + n)
rows_joined ws a zero n = simp (add-zero, zero-add)
rows_joined ws a (suc f) n =
    let e : rows_from ws (a + 1) f ++ rows_from ws (a + 1 + f) n ≡ rows_from ws (a + 1) (f + n) = rows_joined ws (a + 1) f n in
    let p : a + suc f ≡ a + 1 + f = omega arith in
    let q : suc f + n ≡ suc (f + n) = omega arith in
    let u : rows_from ws (a + suc f) n ≡ rows_from ws (a + 1 + f) n = ap (λ x. rows_from ws x n) p in
    ap (λ l. row_at ws a ∷ (rows_from ws (a + 1) f ++ l)) u ∙ ap (λ l. row_at ws a ∷ l) e ∙ ap (rows_from ws a) (sym q)

pub all_rows : (ws : List ℕ) (f n : ℕ) → rows_from ws 0 f ++ rows_from ws f n ≡ rows_from ws 0 (f + n)
all_rows ws f n =
    let e : 0 + f ≡ f = omega arith in
    ap (λ x. rows_from ws 0 f ++ rows_from ws x n) (sym e) ∙ rows_joined ws 0 f n

-- the rows after one another, by number
pub row_read : (ws : List ℕ) (f n i : ℕ) → i < f + n → slice_get (rows_from ws 0 f ++ rows_from ws f n) i ≡ Some (row_at ws i)
row_read ws f n i h =
    let inside : i < length (rows_from ws 0 (f + n)) = omega (arith, length-map-range_with_len (row_at ws) 0 (f + n)) in
    ap (λ l. slice_get l i) (all_rows ws f n) ∙ slice_get-get_or _ i (row_at ws i) inside
    ∙ ap Some (get_or-map-range_with_len (row_at ws) 0 (f + n) i i (row_at ws i) h (omega arith))

pub row_past : (ws : List ℕ) (f n i : ℕ) → f + n ≤ i → slice_get (rows_from ws 0 f ++ rows_from ws f n) i ≡ None
row_past ws f n i h =
    let past : length (rows_from ws 0 (f + n)) ≤ i = omega (arith, length-map-range_with_len (row_at ws) 0 (f + n)) in
    ap (λ l. slice_get l i) (all_rows ws f n) ∙ slice_get_past _ i past

-- a chunk that was found among the first n
pub chunk_found : (ws : List ℕ) (rows : List (List ℕ)) (n i : ℕ) (x : List ℕ) → rows ≡ first_chunks 3 (length ws / 3) ws → length rows ≡ length ws / 3
    → i < length (take n rows) → x ≡ get_or (take n rows) i x → x ≡ words_at ws i
chunk_found ws rows n i x e long l is =
    let few = length-take n rows in
    is ∙ get_or-take n rows i x (omega arith) ∙ ap (λ cs. get_or cs i x) e ∙ chunk_at (length ws / 3) ws i x (omega arith)
