-- The reading of rows of words, and the law of house words. Assumes nothing.
use Rattle.std.proofs.Common.{◌≡◌, ℕ, zero, suc, ◌+◌, ◌-◌, ◌*◌, ◌%◌, ◌<◌, ◌≤◌, min, List, [], ◌∷◌, ◌++◌, length, get_or, take, drop, ℤ, pos, Ok, Err, Result}
use Rattle.std.proofs.Common.{sym, refl, ap, ◌∙◌, subst, inl, inr, append-nil, arith, MatchResult}
use Rattle.std.proofs.lemmas.List.{take_rest, take_at, take_all, take-take, length-take, length-drop, length-append, nil_from_length, get_or-append_right}
use Rattle.std.proofs.lemmas.List.{length_push}
use Rattle.std.proofs.lemmas.List.Elements.{All-nil, All-cons, All-head, All-tail, All-push}
use Rattle.std.proofs.lemmas.Bool.{cases_order}
use Rattle.std.specs.List.{All}
use Rattle.bounds.specs.declared.bound.Bound.{Bound}
use Rattle.bounds.specs.declared.row.Row.{Row}
use Rattle.bounds.specs.Making.{Says, row_of}
use Rattle.bounds.specs.Range.{Sound}
use Rattle.bounds.proofs.Makes.{SameBound}
use Rattle.words.specs.declared.fault.WordFault.{WordFault}
use Rattle.words.specs.declared.fault.WordFault.TheVariants.{Length, Word}
use Rattle.words.specs.Words.{head_word, part_word, row_words, writing}
use Rattle.words.specs.Reading.{IsHead, IsPart, FitsAt, BreaksAt, BoundRead, RowRead, RowsRead, Checked}
use Rattle.words.specs.Law.{WritingHolds, OneWriting, OneReading, OneAnswer, ReadsBack, AcceptedIsWritten, Law}
use Rattle.words.proofs.Writings.{writing_push, length-writing, same_row, row_fits, front3}

-- the words ws begin with those of n rows, and rest is left
pub record Passed (ws : List ℕ) (n : ℕ) (rest : List ℕ) : Type 0 where
  pub rows : List Row
  pub sound : All Sound rows
  pub many : length rows ≡ n
  pub cut : ws ≡ writing rows ++ rest

-- one row more, of a bound with the next three words
pub passed_more : (ws : List ℕ) (n : ℕ) (rest : List ℕ) (b : Bound) → Passed ws n rest → 3 ≤ length rest
    → row_words (row_of b) ≡ get_or rest 0 0 ∷ (get_or rest 1 0 ∷ (get_or rest 2 0 ∷ []))
    → Passed ws (n + 1) (take (length rest - 3) (drop 3 rest))
passed_more ws n rest b p three e =
    let words : rest ≡ row_words (row_of b) ++ drop 3 rest = front3 rest three ∙ ap (λ ws. ws ++ drop 3 rest) (sym e) in
    record {
      rows = p.rows ++ (row_of b ∷ []);
      sound = All-push Sound p.rows (row_of b) p.sound b.sound;
      many = length_push p.rows (row_of b) ∙ ap (λ k. k + 1) p.many;
      cut = p.cut ∙ (ap (λ x. writing p.rows ++ x) words ∙ (writing_push p.rows (row_of b) (drop 3 rest)
          ∙ ap (λ x. writing (p.rows ++ (row_of b ∷ [])) ++ x) (sym (take_rest rest 3))));
    }

-- the row that comes next is broken
pub passed_broken : (ws : List ℕ) (n : ℕ) (rest : List ℕ) (e : WordFault) → Passed ws n rest → 3 ≤ length rest → (get_or rest 0 0 ≡ 0 → ⊥)
    → RowRead (3 * n) (get_or rest 0 0 ∷ (get_or rest 1 0 ∷ (get_or rest 2 0 ∷ []))) (Err e) → RowsRead ws (Err e)
passed_broken ws n rest (Length m) p three begins never = never
passed_broken ws n rest (Word q) p three begins (k, place, (small, fit, bad)) =
    let same : (j : ℕ) → j < 3 → get_or (get_or rest 0 0 ∷ (get_or rest 1 0 ∷ (get_or rest 2 0 ∷ []))) j 0 ≡ get_or rest j 0 = first3 rest in
    record {
      before = p.rows;
      sound = p.sound;
      after = rest;
      cut = p.cut;
      begins = begins;
      k = k;
      within = omega arith;
      breaks = (small, (λ j less. subst (λ w. FitsAt j w) (same j (omega arith)) (fit j less)), λ f. bad (subst (λ w. FitsAt k w) (sym (same k small)) f));
      place = place ∙ ap (λ m. 3 * m + k) (sym p.many);
    }
  where
    first3 : (rest : List ℕ) (j : ℕ) → j < 3 → get_or (get_or rest 0 0 ∷ (get_or rest 1 0 ∷ (get_or rest 2 0 ∷ []))) j 0 ≡ get_or rest j 0
    first3 rest zero h = refl
    first3 rest (suc zero) h = refl
    first3 rest (suc (suc zero)) h = refl
    first3 rest (suc (suc (suc j))) h = absurd (let e : ⊥ = omega arith in e)

-- two readings of the same words go row by row: a row here is a row there, since three words are one row's at most
one_reading : (rows others : List Row) (a b : List ℕ) → All Sound rows → All Sound others → get_or a 0 0 ≡ 0 → get_or b 0 0 ≡ 0
    → writing rows ++ a ≡ writing others ++ b → rows ≡ others
one_reading [] [] a b i j p q h = refl
one_reading [] (x ∷ others) a b i j p q h = absurd (let z = ap (λ ws. get_or ws 0 0) h in let k : ⊥ = omega arith in k)
one_reading (r ∷ rows) [] a b i j p q h = absurd (let z = ap (λ ws. get_or ws 0 0) h in let k : ⊥ = omega arith in k)
one_reading (r ∷ rows) (x ∷ others) a b i j p q h =
    let same = same_row r x (writing rows ++ a) (writing others ++ b) (All-head Sound r rows i) (All-head Sound x others j) h in
    let more = one_reading rows others a b (All-tail Sound r rows i) (All-tail Sound x others j) p q same.1 in
    cc

reads_once : OneReading
reads_once rows others ws h g = one_reading rows others h.after g.after h.sound g.sound h.ends g.ends (sym h.cut ∙ g.cut)

-- rows and then a broken one are no rows and then an end
no_break : (rows others : List Row) (a rest : List ℕ) (k : ℕ) → All Sound rows → All Sound others → get_or a 0 0 ≡ 0
    → writing rows ++ a ≡ writing others ++ rest → (get_or rest 0 0 ≡ 0 → ⊥) → BreaksAt rest k → ⊥
no_break [] [] a rest k i j z h begins br = begins (ap (λ ws. get_or ws 0 0) (sym h) ∙ z)
no_break [] (x ∷ others) a rest k i j z h begins br = let y = ap (λ ws. get_or ws 0 0) h in omega arith
no_break (r ∷ rows) [] a rest k i j z h begins br =
    br.2 (subst (λ ws. FitsAt k (get_or ws k 0)) h (row_fits r (writing rows ++ a) k (All-head Sound r rows i) br.0))
no_break (r ∷ rows) (x ∷ others) a rest k i j z h begins br =
    no_break rows others a rest k (All-tail Sound r rows i) (All-tail Sound x others j) z
    (same_row r x (writing rows ++ a) (writing others ++ rest) (All-head Sound r rows i) (All-head Sound x others j) h).1 begins br

-- a row breaks at one word first
same_break : (ws : List ℕ) (j k : ℕ) → BreaksAt ws j → BreaksAt ws k → j ≡ k
same_break ws j k p q =
    elim (cases_order j k) [
      | inl e ↦ e
      | inr o ↦ elim o [ inl less ↦ absurd (p.2 (q.1 j less)) | inr more ↦ absurd (q.2 (p.1 k more)) ]
    ]

-- the words of a bound do not break their row
own_whole : (ws : List ℕ) (b : Bound) (k : ℕ) → row_words (row_of b) ≡ ws → BreaksAt ws k → ⊥
own_whole ws b k own (small, fit, bad) = bad (subst (λ xs. FitsAt k (get_or xs k 0)) own (row_fits (row_of b) [] k b.sound small))

-- three words have one answer
pub bound_read_once : (ws : List ℕ) (q r : Result Bound WordFault) → BoundRead ws q → BoundRead ws r → SameBound q r
bound_read_once ws (Ok b) (Ok d) p q = (same_row (row_of b) (row_of d) [] [] b.sound d.sound (p ∙ sym q)).0
bound_read_once ws (Ok b) (Err (Length n)) p never = never
bound_read_once ws (Ok b) (Err (Word k)) p q = own_whole ws b k p q
bound_read_once ws (Err (Length n)) r never q = absurd never
bound_read_once ws (Err (Word j)) (Ok d) p q = own_whole ws d j q p
bound_read_once ws (Err (Word j)) (Err (Length n)) p never = absurd never
bound_read_once ws (Err (Word j)) (Err (Word k)) p q = ap (λ n. Word n) (same_break ws j k p q)

one_fault : (rows others : List Row) (a b : List ℕ) (j k : ℕ) → All Sound rows → All Sound others → writing rows ++ a ≡ writing others ++ b
    → BreaksAt a j → BreaksAt b k → 3 * length rows + j ≡ 3 * length others + k
one_fault [] [] a b j k i i' h p q = ap (λ n. 0 + n) (same_break b j k (subst (λ ws. BreaksAt ws j) h p) q)
one_fault [] (x ∷ others) a b j k i i' h p q =
    absurd (p.2 (subst (λ ws. FitsAt j (get_or ws j 0)) (sym h) (row_fits x (writing others ++ b) j (All-head Sound x others i') p.0)))
one_fault (r ∷ rows) [] a b j k i i' h p q =
    absurd (q.2 (subst (λ ws. FitsAt k (get_or ws k 0)) h (row_fits r (writing rows ++ a) k (All-head Sound r rows i) q.0)))
one_fault (r ∷ rows) (x ∷ others) a b j k i i' h p q =
    let same = same_row r x (writing rows ++ a) (writing others ++ b) (All-head Sound r rows i) (All-head Sound x others i') h in
    let e = one_fault rows others a b j k (All-tail Sound r rows i) (All-tail Sound x others i') same.1 p q in
    omega arith

one_read : (ws : List ℕ) (q r : Result ℕ WordFault) → RowsRead ws q → RowsRead ws r → q ≡ r
one_read ws (Ok m) (Ok n) (rows, l, h) (others, k, g) = ap (λ x. Ok x) (sym l ∙ (ap length (reads_once rows others ws h g) ∙ k))
one_read ws (Ok m) (Err (Length n)) h never = absurd never
one_read ws (Ok m) (Err (Word p)) (rows, l, h) b =
    absurd (no_break rows b.before h.after b.after b.k h.sound b.sound h.ends (sym h.cut ∙ b.cut) b.begins b.breaks)
one_read ws (Err (Length n)) r never g = absurd never
one_read ws (Err (Word p)) (Ok m) b (rows, l, h) =
    absurd (no_break rows b.before h.after b.after b.k h.sound b.sound h.ends (sym h.cut ∙ b.cut) b.begins b.breaks)
one_read ws (Err (Word p)) (Err (Length n)) h never = absurd never
one_read ws (Err (Word p)) (Err (Word q)) a b =
    ap (λ n. Err (Word n)) (a.place ∙ (one_fault a.before b.before a.after b.after a.k b.k a.sound b.sound (sym a.cut ∙ b.cut) a.breaks b.breaks ∙ sym b.place))

one_answer : OneAnswer
one_answer ws (Ok m) (Ok n) (whole, h) (whole', g) = one_read (take 196605 ws) (Ok m) (Ok n) h g
one_answer ws (Ok m) (Err (Length n)) (whole, h) (odd, e) = absurd (odd whole)
one_answer ws (Ok m) (Err (Word p)) (whole, h) (whole', g) = one_read (take 196605 ws) (Ok m) (Err (Word p)) h g
one_answer ws (Err (Length m)) (Ok n) (odd, e) (whole, h) = absurd (odd whole)
one_answer ws (Err (Length m)) (Err (Length n)) (odd, e) (odd', e') = ap (λ k. Err (Length k)) (e ∙ sym e')
one_answer ws (Err (Length m)) (Err (Word p)) (odd, e) (whole, h) = absurd (odd whole)
one_answer ws (Err (Word p)) (Ok n) (whole, h) (whole', g) = one_read (take 196605 ws) (Err (Word p)) (Ok n) h g
one_answer ws (Err (Word p)) (Err (Length n)) (whole, h) (odd, e) = absurd (odd whole)
one_answer ws (Err (Word p)) (Err (Word q)) (whole, h) (whole', g) = one_read (take 196605 ws) (Err (Word p)) (Err (Word q)) h g

-- the third word breaks its row where the two before it fit
pub third_breaks : (ws : List ℕ) → IsHead (get_or ws 0 0) → IsPart 2 (get_or ws 1 0) → (IsPart 3 (get_or ws 2 0) → ⊥) → BreaksAt ws 2
third_breaks ws head t bad = (omega arith, fits, bad)
  where
    fits : (j : ℕ) → j < 2 → FitsAt j (get_or ws j 0)
    fits zero h = head
    fits (suc zero) h = t
    fits (suc (suc j)) h = absurd (let e : ⊥ = omega arith in e)

-- three words that say a bound's numbers are the bound's
pub three_words : (ws : List ℕ) (b : Bound) (left right : ℕ) (t s : ℤ) → length ws ≡ 3 → Says (row_of b) (pos left) (pos right) t s
    → get_or ws 0 0 ≡ head_word left right → get_or ws 1 0 ≡ part_word 2 t → get_or ws 2 0 ≡ part_word 3 s → row_words (row_of b) ≡ ws
three_words ws b left right t s three says head t_word s_word =
    let left_is : (row_of b).left ≡ left = let e = says.left_is in cc in
    let right_is : (row_of b).right ≡ right = let e = says.right_is in cc in
    let rest : drop 3 ws ≡ [] = nil_from_length (drop 3 ws) (omega (arith, length-drop 3 ws)) in
    let words = front3 ws (omega arith) in
    cc (says.t_is, says.s_is)

-- the words that are used, of a buffer of any length
used_words : (ws : List ℕ) (u k : ℕ) → u ≡ min (length ws) k → take u ws ≡ take k ws
used_words ws u k used = grind (arith, take_all)

-- the answer to the words that are used is that to the whole buffer
pub checked : (ws : List ℕ) (u : ℕ) (r : Result ℕ WordFault) → length ws % 3 ≡ 0 → u ≡ min (length ws) 196605 → RowsRead (take u ws) r → Checked ws r
checked ws u r whole used h = told r (subst (λ xs. RowsRead xs r) (used_words ws u 196605 used) h)
  where
    told : (r : Result ℕ WordFault) → RowsRead (take 196605 ws) r → Checked ws r
    told (Ok n) h = (whole, h)
    told (Err (Length n)) h = absurd h
    told (Err (Word p)) h = (whole, h)

writing_holds : WritingHolds
writing_holds rows sound = (
  record { sound = sound; after = []; cut = sym (append-nil (writing rows)); ends = refl },
  λ more. record { sound = sound; after = 0 ∷ more; cut = refl; ends = refl },
)

one_writing : OneWriting
one_writing rows ws h = ap (take (3 * length rows)) h.cut ∙ take_at (writing rows) h.after (3 * length rows) (length-writing rows)

reads_back : ReadsBack
reads_back rows sound few =
    let long = length-writing rows in
    let whole : writing rows ≡ take 196605 (writing rows) = sym (take_all 196605 (writing rows) (omega arith)) in
    (omega arith, subst (λ ws. RowsRead ws (Ok (length rows))) whole (rows, refl, (writing_holds rows sound).0))

accepted_is_written : AcceptedIsWritten
accepted_is_written ws n (whole, (rows, many, h)) =
    let used = take 196605 ws in
    let long = length-writing rows in
    let all : length used ≡ length (writing rows) + length h.after = ap length h.cut ∙ length-append (writing rows) h.after in
    let most = length-take 196605 ws in
    let few : length rows ≤ 65535 = omega arith in (
      rows,
      h.sound,
      many,
      omega arith,
      ap (λ k. take (3 * k) ws) (sym many) ∙ (sym (take-take (3 * length rows) 196605 ws (omega arith)) ∙ one_writing rows used h),
      ap (λ xs. get_or xs (3 * n) 0) h.cut ∙ (get_or-append_right (writing rows) h.after (3 * n) (3 * n) 0 (omega arith) (omega arith)
          ∙ (ap (λ k. get_or h.after k 0) (omega arith) ∙ h.ends)),
    )

pub law : Law
law = record {
  writing_holds = writing_holds;
  one_writing = one_writing;
  one_reading = reads_once;
  one_answer = one_answer;
  reads_back = reads_back;
  accepted_is_written = accepted_is_written;
}

-- what a bound's own words are answered: one row, and the bound itself
module _ (b : Bound) (ws : List ℕ) (own : ws ≡ row_words (row_of b)) where
  pub own_checked : (r : Result ℕ WordFault) → Checked ws r → r ≡ Ok 1
  own_checked r h =
      let sound = All-cons Sound (row_of b) [] b.sound (All-nil Sound) in
      one_answer (writing (row_of b ∷ [])) r (Ok 1) (subst (λ ws. Checked ws r) own h) (reads_back (row_of b ∷ []) sound (omega arith))

  pub own_read : (r : Result Bound WordFault) → BoundRead ws r → MatchResult r (λ back. row_of back ≡ row_of b) (λ _. ⊥)
  own_read (Ok back) h = (same_row (row_of back) (row_of b) [] [] back.sound b.sound (h ∙ own)).0
  own_read (Err (Length n)) h = h
  own_read (Err (Word k)) h = own_whole ws b k (sym own) h
