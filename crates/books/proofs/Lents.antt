-- What adding and cutting make of the rows in lent words, and which rows an accepted buffer holds. Assumes nothing.
use Rattle.std.proofs.Common.{◌≡◌, ℕ, zero, suc, ◌+◌, ◌*◌, ◌<◌, ◌≤◌, ◌⊎◌, List, [], ◌∷◌, ◌++◌, length, get_or, take, drop, Ok, Err, Result, sym}
use Rattle.std.proofs.Common.{refl, ap, ◌∙◌, subst, inl, inr, arith}
use Rattle.std.proofs.lemmas.List.{length-take, length-append, take-take}
use Rattle.std.proofs.lemmas.List.FromFn.{fill_by_all, map-range_with_len_more, take-map-range_with_len, length-map-range_with_len}
use Rattle.std.proofs.lemmas.Bool.{cases_lt}
use Rattle.std.proofs.lemmas.List.Elements.{All-get_or}
use Rattle.bounds.specs.declared.row.Row.{Row}
use Rattle.bounds.specs.Range.{Sound}
use Rattle.words.specs.Words.{row_words, writing}
use Rattle.words.specs.Reading.{Holds, Checked}
use Rattle.words.specs.declared.fault.WordFault.{WordFault}
use Rattle.words.proofs.Readings.{law}
use Rattle.words.proofs.Writings.{length-writing}
use Rattle.books.specs.declared.lent.Counts.{Counts}
use Rattle.books.specs.Meaning.{Meaning, with_bounds, cut_to}
use Rattle.books.specs.Decoding.{taken_apart, OfBound, words_at, row_at, rows_from, BoundsIn}
use Rattle.books.specs.Lent.{row_places, rows_in, Fit, Opens, Opened, ended, row_put}
use Rattle.books.proofs.Decodings.{row_count, own_row, own_words, same_words, same_bounds, same_rows, words_there}
use Rattle.books.proofs.Meanings.{same_meaning}
use Rattle.books.proofs.Replaced.{length-ended, length-row_put, take-ended, take-row_put, take_with-row_put}

-- one row more after n rows, and the end after it
module _ (ws vs : List ℕ) (p n : ℕ) (row : Row) (room : 3 * p ≤ length ws) (free : n < p) (made : vs ≡ row_put p ws n row) where
  put_before : take (3 * n) vs ≡ take (3 * n) ws
  put_before = ap (take (3 * n)) made ∙ take-row_put p ws n row room free

  put_there : words_at vs n ≡ row_words row
  put_there = words_there ws vs n row (omega arith) (ap (take (3 * n + 3)) made ∙ take_with-row_put p ws n row room free (3 * n + 3) refl)

  pub put_bounds : BoundsIn ws n → Sound row → (m : ℕ) → m ≡ n + 1 → BoundsIn vs m
  put_bounds bounds sound m e i h = by (cases_lt i n)
    where
      by : (i < n) ⊎ (n ≤ i) → OfBound (words_at vs i)
      by (inl l) = same_bounds ws vs n put_before bounds i l
      by (inr l) = let last : n ≡ i = omega arith in subst (λ j. OfBound (words_at vs j)) last (subst OfBound (sym put_there) (own_words row sound))

  pub put_rows : (f a : ℕ) → f + a ≡ n → Sound row → rows_from vs f (a + 1) ≡ rows_from ws f a ++ row ∷ []
  put_rows f a e sound =
      let there : row_at vs n ≡ row = ap taken_apart put_there ∙ own_row row sound in
      map-range_with_len_more (row_at vs) f a n e ∙ ap (λ l. l ++ row_at vs n ∷ []) (same_rows ws vs n put_before f a (omega arith))
      ∙ ap (λ r. rows_from ws f a ++ r ∷ []) there

-- what is added to a book with these counts, and what is kept of it
module _ (ws vs : List ℕ) (c : Counts) (fit : Fit ws c) where
  module _ (row : Row) (free : c.fixed + c.added < c.places) (made : vs ≡ row_put c.places ws (c.fixed + c.added) row) (sound : Sound row) where
    pub add_fits : Fit vs (record c { added = c.added + 1 })
    add_fits = record {
      room = subst (λ n. 3 * c.places ≤ n) (sym (ap length made ∙ length-row_put c.places ws (c.fixed + c.added) row fit.room free)) fit.room;
      few = fit.few;
      held = omega arith;
      bounds = put_bounds ws vs c.places (c.fixed + c.added) row fit.room free made fit.bounds sound _ (omega arith);
    }

    pub add_meaning : rows_in vs (record c { added = c.added + 1 }) ≡ with_bounds (rows_in ws c) (row ∷ [])
    add_meaning =
        let n = c.fixed + c.added in
        let before = put_before ws vs c.places n row fit.room free made in
        same_meaning _ _ (same_rows ws vs n before 0 c.fixed (omega arith))
        (put_rows ws vs c.places n row fit.room free made c.fixed c.added refl sound) (omega arith)

  module _ (k : ℕ) (few : k ≤ c.added) (made : vs ≡ ended c.places ws (c.fixed + k)) where
    cut_before : take (3 * (c.fixed + k)) vs ≡ take (3 * (c.fixed + k)) ws
    cut_before = ap (take (3 * (c.fixed + k))) made ∙ take-ended c.places ws (c.fixed + k) fit.room (3 * (c.fixed + k)) (omega arith)

    pub cut_fits : Fit vs (record c { added = k })
    cut_fits = record {
      room = subst (λ n. 3 * c.places ≤ n) (sym (ap length made ∙ length-ended c.places ws (c.fixed + k) fit.room)) fit.room;
      few = fit.few;
      held = omega (arith, fit.held);
      bounds = same_bounds ws vs (c.fixed + k) cut_before (λ i l. fit.bounds i (omega arith));
    }

    pub cut_meaning : rows_in vs (record c { added = k }) ≡ cut_to (rows_in ws c) k
    cut_meaning =
        let kept = same_rows ws vs (c.fixed + k) cut_before in
        let many = length-map-range_with_len (row_at ws) c.fixed c.added in
        same_meaning _ _ (kept 0 c.fixed (omega arith)) (kept c.fixed k (omega arith) ∙ sym (take-map-range_with_len (row_at ws) c.fixed c.added k few))
        (omega (arith, fit.held))

-- the words at a number of a writing
word_in : (rows : List Row) (after : List ℕ) (i : ℕ) (r : Row) → i < length rows → words_at (writing rows ++ after) i ≡ row_words (get_or rows i r)
word_in [] after i r h = absurd (let e : ⊥ = omega arith in e)
word_in (x ∷ rows) after zero r h = refl
word_in (x ∷ rows) after (suc i) r h =
    let e : 3 * suc i ≡ suc (suc (suc (3 * i))) = omega arith in
    ap (λ k. take 3 (drop k (writing (x ∷ rows) ++ after))) e ∙ word_in rows after i r (omega arith)

-- the rows that words hold stand there, and are those of bounds
module _ (ws : List ℕ) (rows : List Row) (h : Holds rows (take 196605 ws)) where
  used_long : length (take 196605 ws) ≡ 3 * length rows + length h.after
  used_long = ap length h.cut ∙ length-append (writing rows) h.after ∙ ap (λ n. n + length h.after) (length-writing rows)

  pub held_few : length rows ≤ row_places (length ws)
  held_few = omega (arith, used_long, length-take 196605 ws)

  held_words : (i : ℕ) (r : Row) → i < length rows → words_at ws i ≡ row_words (get_or rows i r)
  held_words i r l =
      let same : take (3 * length rows) (take 196605 ws) ≡ take (3 * length rows) ws =
      take-take (3 * length rows) 196605 ws (omega (arith, used_long, length-take 196605 ws)) in
      sym (same_words ws (take 196605 ws) (length rows) same i l) ∙ ap (λ vs. words_at vs i) h.cut ∙ word_in rows h.after i r l

  pub held_bounds : BoundsIn ws (length rows)
  held_bounds i l =
      let r = row_at ws 0 in
      subst OfBound (sym (held_words i r l)) (own_words (get_or rows i r) (All-get_or Sound rows i r l h.sound))

  pub held_rows : rows_from ws 0 (length rows) ≡ rows
  held_rows =
      let r = row_at ws 0 in
      sym (fill_by_all (row_at ws) rows (length rows) r refl (λ i l.
      sym (ap taken_apart (held_words i r l) ∙ own_row (get_or rows i r) (All-get_or Sound rows i r l h.sound))))

-- the counts found, by the check's answer
module _ (ws : List ℕ) where
  pub found_few : (n : ℕ) → Checked ws (Ok n) → n ≤ row_places (length ws)
  found_few n (whole, (rows, many, h)) = subst (λ k. k ≤ row_places (length ws)) many (held_few ws rows h)

  pub found_fits : (n : ℕ) (c : Counts) → Checked ws (Ok n) → c.places ≡ row_places (length ws) → c.fixed ≡ n → c.added ≡ 0 → Fit ws c
  found_fits n c (whole, (rows, many, h)) p f a =
      let few = held_few ws rows h in
      let all : length rows ≡ c.fixed + c.added = omega arith in
      record { room = omega arith; few = omega arith; held = omega arith; bounds = subst (BoundsIn ws) all (held_bounds ws rows h) }

  pub opens_rows : (n p : ℕ) → Checked ws (Ok n) → p ≡ row_places (length ws) → Opens ws (Ok n) (rows_in ws (record { places = p; fixed = n; added = 0 }))
  opens_rows n p (whole, (rows, many, h)) e =
      let same : rows_from ws 0 n ≡ rows = ap (rows_from ws 0) (sym many) ∙ held_rows ws rows h in
      (subst (λ xs. Holds xs (take 196605 ws)) (sym same) h, refl, ap length same ∙ many, omega arith)

  pub opens_none : (e : WordFault) (c : Counts) → c.places ≡ 0 → c.fixed ≡ 0 → c.added ≡ 0 → Opens ws (Err e) (rows_in ws c)
  opens_none e c p f a = same_meaning _ _ (ap (rows_from ws 0) f) (ap (rows_from ws c.fixed) a) (omega arith)

  -- whichever answer the check has, it is the one that was had
  pub opens_once : (q : Result ℕ WordFault) (m : Meaning) → Checked ws q → Opens ws q m → Opened ws m
  opens_once q m h o r g = subst (λ x. Opens ws x m) (law.one_answer ws q r h g) o

-- what the calls of a word book are proved by
pub ruleset book_rows = (row_count, add_fits, add_meaning, cut_fits)
