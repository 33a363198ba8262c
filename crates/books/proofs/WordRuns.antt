-- Whatever calls a word book goes through, its words hold its bounds. Assumes nothing.
use Rattle.std.proofs.Common.{◌≡◌, ℕ, zero, suc, ◌+◌, ◌-◌, ◌*◌, ◌%◌, ◌<◌, ◌≤◌, Bool, true, false, ◌⊎◌, List, [], ◌∷◌, ◌++◌, length, get_or, take}
use Rattle.std.proofs.Common.{drop, Ok, Err, Result, sym, refl, ap, ◌∙◌, subst, inl, inr, arith}
use Rattle.std.proofs.Math.Seq.{take-add}
use Rattle.std.proofs.lemmas.List.FromFn.{length-map-range_with_len, map-range_with_len_more}
use Rattle.std.proofs.lemmas.List.{flat_map_more, get_or-drop, get_or_past, get_or-take, length_push, length-take, length-take-le, take-append-drop, take-take}
use Rattle.std.proofs.lemmas.Bool.{cases_lt}
use Rattle.bounds.specs.declared.bound.Bound.{Bound}
use Rattle.bounds.specs.Making.{row_of}
use Rattle.words.specs.Words.{row_words, writing}
use Rattle.words.specs.Reading.{Checked}
use Rattle.words.proofs.Readings.{law}
use Rattle.books.specs.declared.fault.BookFault.{BookFault}
use Rattle.books.specs.declared.fault.BookFault.TheVariants.{Full}
use Rattle.books.specs.declared.lent.WordBook.{WordBook}
use Rattle.books.specs.Calls.{Adding, Cutting, Went, still, adding, cutting}
use Rattle.books.specs.Decoding.{row_at, rows_from, BoundsIn}
use Rattle.books.specs.Held.{meaning_of, RowAdded, RowsCut, Written, StaysWritten}
use Rattle.books.specs.Lent.{Opens, Opened, row_places, replaced, ended}
use Rattle.books.specs.Meaning.{bounds_of, with_bounds, cut_to}
use Rattle.books.specs.WordLaws.{words_proper}
use Rattle.books.proofs.Decodings.{all_rows}
use Rattle.books.proofs.Lents.{found_few}
use Rattle.books.proofs.Replaced.{length-ended, length-mid, drop-ended, zero_ended, length-row_put, drop-row_put}

-- the counts of a book, by its meaning
fixed_is : (v : WordBook) → v.counts.fixed ≡ length (meaning_of v).fixed
fixed_is v = sym (length-map-range_with_len (row_at v.words.now) 0 v.counts.fixed)

added_is : (v : WordBook) → v.counts.added ≡ length (meaning_of v).added
added_is v = sym (length-map-range_with_len (row_at v.words.now) v.counts.fixed v.counts.added)

-- words that begin with rows of bounds begin with the writing of those rows
bounds_written : (ws : List ℕ) (n : ℕ) → BoundsIn ws n → take (3 * n) ws ≡ writing (rows_from ws 0 n)
bounds_written ws zero b = refl
bounds_written ws (suc n) b =
    let k : 3 * suc n ≡ 3 * n + 3 = omega arith in
    let m : suc n ≡ n + 1 = omega arith in
    let more = map-range_with_len_more (row_at ws) 0 n n (omega arith) in
    ap (λ j. take j ws) k ∙ take-add (3 * n) 3 ws ∙ ap (λ l. l ++ take 3 (drop (3 * n) ws)) (bounds_written ws n (λ i l. b i (omega arith)))
    ∙ ap (λ l. writing (rows_from ws 0 n) ++ l) (sym (b n (omega arith)).1) ∙ flat_map_more row_words [] (rows_from ws 0 n) (row_at ws n)
    ∙ ap writing (sym more ∙ ap (rows_from ws 0) (sym m))

-- the words of n rows end there: at a zero head, or where the places do
module _ (vs : List ℕ) (p n : ℕ) (whole : length vs % 3 ≡ 0) (all : p ≡ row_places (length vs)) (most : n ≤ p) where
  ends_there : (us : List ℕ) → us ≡ ended p vs n → get_or (take 196605 us) (3 * n) 0 ≡ 0
  ends_there us made = by (cases_lt n p)
    where
      room : 3 * p ≤ length vs
      room = omega arith

      long : length us ≡ length vs
      long = ap length made ∙ length-ended p vs n room

      by : (n < p) ⊎ (p ≤ n) → get_or (take 196605 us) (3 * n) 0 ≡ 0
      by (inl h) = get_or-take 196605 us (3 * n) 0 (omega arith) ∙ ap (λ l. get_or l (3 * n) 0) made ∙ zero_ended p vs n room h
      by (inr h) = get_or_past (take 196605 us) (3 * n) 0 (simp length-take (omega (arith, long)))

module _ (ws : List ℕ) (whole : length ws % 3 ≡ 0) where
  record Inv (v : WordBook) : Type 0 where
    long : length v.words.now ≡ length ws
    beyond : drop 196605 v.words.now ≡ drop 196605 ws
    places : v.counts.places ≡ row_places (length ws)
    ends : get_or (take 196605 v.words.now) (3 * (v.counts.fixed + v.counts.added)) 0 ≡ 0

  inv_holds : (v : WordBook) → Inv v → Written ws v
  inv_holds v i =
      let vs = v.words.now in
      let used = take 196605 vs in
      let n = v.counts.fixed + v.counts.added in
      let few = v.fit.few in
      let held = v.fit.held in
      let front : take (3 * n) used ≡ writing (bounds_of (meaning_of v))
      = take-take (3 * n) 196605 vs (omega arith) ∙ bounds_written vs n v.fit.bounds ∙ ap writing (sym (all_rows vs v.counts.fixed v.counts.added)) in
      record {
        holds = record {
          sound = (words_proper vs v.counts v.fit).sound;
          after = drop (3 * n) used;
          cut = sym (take-append-drop (3 * n) used) ∙ ap (λ l. l ++ drop (3 * n) used) front;
          ends = get_or-drop (3 * n) used 0 0 ∙ ap (λ k. get_or used k 0) (omega arith) ∙ i.ends;
        };
        long = i.long;
        beyond = i.beyond;
      }

  inv_open : (w : WordBook) (n : ℕ) → w.words.now ≡ ws → Checked ws (Ok n) → Opens ws (Ok n) (meaning_of w) → Inv w
  inv_open w n same checked (holds, none, many, free) =
      let count : w.counts.fixed + w.counts.added ≡ n = omega (arith, fixed_is w ∙ many, added_is w ∙ ap length none) in
      let few = found_few ws n checked in
      let read = law.accepted_is_written ws n checked in
      record {
        long = ap length same;
        beyond = ap (drop 196605) same;
        places = omega (arith, w.fit.held);
        ends = ap (λ l. get_or (take 196605 l) (3 * (w.counts.fixed + w.counts.added)) 0) same ∙ ap (λ k. get_or (take 196605 ws) (3 * k) 0) count ∙ read.5;
      }

  inv_add : (b c : WordBook) (bound : Bound) → Inv b → 0 < (meaning_of b).free → meaning_of c ≡ with_bounds (meaning_of b) (row_of bound ∷ [])
      → RowAdded b (row_of bound) c → Inv c
  inv_add b c bound i some m (name, made) =
      let row = row_of bound in
      let vs = b.words.now in
      let us = c.words.now in
      let p = b.counts.places in
      let n = b.counts.fixed + b.counts.added in
      let free : n < p = omega arith in
      let room = b.fit.room in
      let long = i.long in
      let all = i.places in
      let held = c.fit.held in
      let fixed : c.counts.fixed ≡ b.counts.fixed = fixed_is c ∙ ap (λ x. length x.fixed) m ∙ sym (fixed_is b) in
      let added : c.counts.added ≡ b.counts.added + 1
      = added_is c ∙ ap (λ x. length x.added) m ∙ length_push (meaning_of b).added row ∙ ap (λ k. k + 1) (sym (added_is b)) in
      let left : c.counts.places - (c.counts.fixed + c.counts.added) ≡ p - n - 1 = ap (λ x. x.free) m in
      let mid = replaced vs (3 * n) (row_words row) in
      let mid_long : length mid ≡ length ws = length-mid p vs n row b.fit.room free ∙ long in
      record {
        long = ap length made ∙ length-row_put p vs n row b.fit.room free ∙ long;
        beyond = ap (drop 196605) made ∙ drop-row_put p vs n row b.fit.room free 196605 (omega arith) ∙ i.beyond;
        places = omega arith;
        ends = (let count : c.counts.fixed + c.counts.added ≡ n + 1 = omega arith in ap (λ k. get_or (take 196605 us) (3 * k) 0) count)
            ∙ ends_there mid p (n + 1) (ap (λ k. k % 3) mid_long ∙ whole) (all ∙ ap row_places (sym mid_long)) (omega arith) us made;
      }

  inv_cut : (b c : WordBook) (k : ℕ) → Inv b → k ≤ length (meaning_of b).added → meaning_of c ≡ cut_to (meaning_of b) k → RowsCut b k c → Inv c
  inv_cut b c k i h m (name, made) =
      let vs = b.words.now in
      let us = c.words.now in
      let p = b.counts.places in
      let n = b.counts.fixed + k in
      let room = b.fit.room in
      let long = i.long in
      let all = i.places in
      let few = b.fit.held in
      let held = c.fit.held in
      let many = added_is b in
      let some : n ≤ p = omega arith in
      let fixed : c.counts.fixed ≡ b.counts.fixed = fixed_is c ∙ ap (λ x. length x.fixed) m ∙ sym (fixed_is b) in
      let added : c.counts.added ≡ k = added_is c ∙ ap (λ x. length x.added) m ∙ length-take-le k (meaning_of b).added h in
      let left : c.counts.places - (c.counts.fixed + c.counts.added) ≡ p - (b.counts.fixed + b.counts.added) + (length (meaning_of b).added - k) =
      ap (λ x. x.free) m in
      record {
        long = ap length made ∙ length-ended p vs n room ∙ long;
        beyond = ap (drop 196605) made ∙ drop-ended p vs n room 196605 (omega arith) ∙ i.beyond;
        places = omega arith;
        ends = (let count : c.counts.fixed + c.counts.added ≡ n = omega arith in ap (λ j. get_or (take 196605 us) (3 * j) 0) count)
            ∙ ends_there vs p n (ap (λ j. j % 3) long ∙ whole) (all ∙ ap row_places (sym long)) some us made;
      }

  inv_run : (a b : WordBook) → Went meaning_of RowAdded RowsCut a b → Inv a → Inv b
  inv_run a b still i = i
  inv_run a c (adding {b} bound r before step) i = by r (inv_run a b before i) step
    where
      by : (r : Result (Unit {0}) BookFault) → Inv b → Adding meaning_of RowAdded b (row_of bound) c r → Inv c
      by (Ok u) i (free, m, put) = inv_add b c bound i free m put
      by (Err Full) i (none, same) = subst Inv (sym same) i
  inv_run a c (cutting {b} k r before step) i = by r (inv_run a b before i) step
    where
      by : (r : Bool) → Inv b → Cutting meaning_of RowsCut b k c r → Inv c
      by true i (few, m, cut) = inv_cut b c k i few m cut
      by false i (none, same) = subst Inv (sym same) i

pub stays_written : (ws : List ℕ) (w : WordBook) → w.words.now ≡ ws
    → Opened ws (meaning_of w) → StaysWritten ws w
stays_written ws w same opens n checked v went =
    inv_holds ws checked.0 v (inv_run ws checked.0 w v went (inv_open ws checked.0 w n same checked (opens (Ok n) checked)))
