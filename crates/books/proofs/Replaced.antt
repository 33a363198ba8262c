-- Words put in the place of others: what stands before them, there and after. Assumes nothing.
use Rattle.std.proofs.Common.{◌≡◌, ℕ, ◌+◌, ◌-◌, ◌*◌, ◌<◌, ◌≤◌, ltb, List, [], ◌∷◌, ◌++◌, length, get_or, take, drop, sym, refl, ap, ◌∙◌, arith}
use borrow.Rule.Slice.PartMut.{put_mid}
use Rattle.std.proofs.lemmas.List.{length-append, length-take, length-take-le, length-drop, get_or-append_right, drop-drop}
use Rattle.std.proofs.lemmas.Slice.{take-put_mid, take-put_mid_below, drop-put_mid}
use Rattle.std.proofs.lemmas.Bool.{cond_both, cond-true, ltb-true, lt-ltb}
use Rattle.bounds.specs.declared.row.Row.{Row}
use Rattle.words.specs.Words.{row_words}
use Rattle.books.specs.Lent.{replaced, ended, row_put}

module _ (ws new : List ℕ) (i : ℕ) (inside : i + length new ≤ length ws) where
  pub length-replaced : length (replaced ws i new) ≡ length ws
  length-replaced = simp (length-append, length-take, length-drop) (omega arith)

  mid : put_mid i (length new) ws new ≡ replaced ws i new
  mid = ap (λ l. take i ws ++ (new ++ l)) (drop-drop (length new) i ws)

  -- what comes before, with the new words, and what comes after
  pub take-replaced : (k : ℕ) → k ≡ i + length new → take k (replaced ws i new) ≡ take i ws ++ new
  take-replaced k e = ap (take k) (sym mid) ∙ take-put_mid i (length new) ws new k e (omega arith)

  pub take_before-replaced : (k : ℕ) → k ≤ i → take k (replaced ws i new) ≡ take k ws
  take_before-replaced k h = ap (take k) (sym mid) ∙ take-put_mid_below i (length new) ws new k h (omega arith)

  pub drop-replaced : (k : ℕ) → i + length new ≤ k → drop k (replaced ws i new) ≡ drop k ws
  drop-replaced k h = ap (drop k) (sym mid) ∙ drop-put_mid i (length new) ws new k h (omega arith) refl

-- the end mark leaves the length, and the words before it
module _ (places : ℕ) (ws : List ℕ) (n : ℕ) (room : 3 * places ≤ length ws) where
  inside : n < places → 3 * n + 1 ≤ length ws
  inside h = omega arith

  pub length-ended : length (ended places ws n) ≡ length ws
  length-ended = cond_both (ltb n places) _ ws (λ vs. length vs ≡ length ws)
      (λ e. length-replaced ws (0 ∷ []) (3 * n) (inside (ltb-true n places e))) (λ e. refl)

  pub take-ended : (k : ℕ) → k ≤ 3 * n → take k (ended places ws n) ≡ take k ws
  take-ended k h = cond_both (ltb n places) _ ws (λ vs. take k vs ≡ take k ws)
      (λ e. take_before-replaced ws (0 ∷ []) (3 * n) (inside (ltb-true n places e)) k h) (λ e. refl)

  pub drop-ended : (k : ℕ) → 3 * places ≤ k → drop k (ended places ws n) ≡ drop k ws
  drop-ended k h =
      cond_both (ltb n places) _ ws (λ vs. drop k vs ≡ drop k ws)
      (λ e. let l = ltb-true n places e in drop-replaced ws (0 ∷ []) (3 * n) (inside l) k (omega arith)) (λ e. refl)

  -- the end mark stands there, where there is a place
  pub zero_ended : n < places → get_or (ended places ws n) (3 * n) 0 ≡ 0
  zero_ended h =
      let long : length (take (3 * n) ws) ≡ 3 * n = length-take-le (3 * n) ws (omega arith) in
      ap (λ vs. get_or vs (3 * n) 0) (cond-true (ltb n places) (replaced ws (3 * n) (0 ∷ [])) ws (lt-ltb n places h))
      ∙ get_or-append_right (take (3 * n) ws) _ (3 * n) (3 * n) 0 long (omega arith)
      ∙ (let e : 3 * n - 3 * n ≡ 0 = omega arith in ap (λ k. get_or (0 ∷ drop (3 * n + 1) ws) k 0) e)

-- one row more after n rows, and the end after it
module _ (places : ℕ) (ws : List ℕ) (n : ℕ) (row : Row) (room : 3 * places ≤ length ws) (free : n < places) where
  within : 3 * n + 3 ≤ length ws
  within = omega arith

  pub length-mid : length (replaced ws (3 * n) (row_words row)) ≡ length ws
  length-mid = length-replaced ws (row_words row) (3 * n) within

  pub room_mid : 3 * places ≤ length (replaced ws (3 * n) (row_words row))
  room_mid = omega (arith, length-mid)

  pub length-row_put : length (row_put places ws n row) ≡ length ws
  length-row_put = length-ended places _ (n + 1) room_mid ∙ length-mid

  pub take-row_put : take (3 * n) (row_put places ws n row) ≡ take (3 * n) ws
  take-row_put = take-ended places _ (n + 1) room_mid (3 * n) (omega arith) ∙ take_before-replaced ws (row_words row) (3 * n) within (3 * n) (omega arith)

  pub take_with-row_put : (k : ℕ) → k ≡ 3 * n + 3 → take k (row_put places ws n row) ≡ take (3 * n) ws ++ row_words row
  take_with-row_put k e = take-ended places _ (n + 1) room_mid k (omega arith) ∙ take-replaced ws (row_words row) (3 * n) within k e

  pub drop-row_put : (k : ℕ) → 3 * places ≤ k → drop k (row_put places ws n row) ≡ drop k ws
  drop-row_put k h = drop-ended places _ (n + 1) room_mid k h ∙ drop-replaced ws (row_words row) (3 * n) within k (omega arith)
