-- Where a script is cut into lines. Assumes nothing.
use Rattle.std.proofs.Common.{◌≡◌, ℕ, ◌+◌, ◌<◌, ◌⊎◌, Bool, eqb, List, [], ◌∷◌, ◌++◌, length, drop, sym, ap, ◌∙◌, inl, inr, refl, arith}
use Rattle.std.specs.List.{slice_split, onto_first}
use Rattle.std.proofs.lemmas.Bool.{cases_eq, eq-eqb, ne_eqb, cond-true, cond-false}
use Rattle.std.proofs.lemmas.List.{length-append, length-drop, drop_all, drop-drop, drop_at, append_assoc}
use Rattle.std.proofs.lemmas.List.Splits.{slice_split-cons_yes, slice_split-cons_no, length-slice_split}
use Rattle.scripts.specs.Cursor.{until_feed, line_from, line_end}
use Rattle.scripts.specs.Lines.{lines_of, script_lines}

-- a list that is cut has a part
pub some_part : {X : Type 0} (p : X → Bool) (xs : List X) → slice_split p xs ≡ [] → ⊥
some_part p xs none = omega (arith, length-slice_split p xs, ap length none)

-- a part before others is a line
pub more_lines : (first : List ℕ) (parts : List (List ℕ)) → (parts ≡ [] → ⊥) → lines_of (first ∷ parts) ≡ first ∷ lines_of parts
more_lines first [] some = absurd (some refl)
more_lines first (next ∷ parts) some = refl

-- a line feed
abbrev feed : ℕ → Bool
feed b = eqb b 10

-- bytes with no line feed are one part, and others are cut at the first
cut_once : (xs : List ℕ) → ((until_feed xs ≡ xs) × (slice_split feed xs ≡ xs ∷ []))
    ⊎ ((rest : List ℕ) × (xs ≡ until_feed xs ++ (10 ∷ rest)) × (slice_split feed xs ≡ until_feed xs ∷ slice_split feed rest))
cut_once [] = inl (refl, refl)
cut_once (b ∷ bs) = go (cases_eq b 10) (cut_once bs)
  where
    go : (b ≡ 10) ⊎ (b ≡ 10 → ⊥) → ((until_feed bs ≡ bs) × (slice_split feed bs ≡ bs ∷ []))
        ⊎ ((rest : List ℕ) × (bs ≡ until_feed bs ++ (10 ∷ rest)) × (slice_split feed bs ≡ until_feed bs ∷ slice_split feed rest))
        → ((until_feed (b ∷ bs) ≡ b ∷ bs) × (slice_split feed (b ∷ bs) ≡ (b ∷ bs) ∷ []))
        ⊎ ((rest : List ℕ) × (b ∷ bs ≡ until_feed (b ∷ bs) ++ (10 ∷ rest)) × (slice_split feed (b ∷ bs) ≡ until_feed (b ∷ bs) ∷ slice_split feed rest))
    go (inl is) rest =
        let none : until_feed (b ∷ bs) ≡ [] = cond-true (eqb b 10) [] (b ∷ until_feed bs) (eq-eqb b 10 is) in
        inr (
          bs,
          ap (λ x. x ∷ bs) is ∙ sym (ap (λ u. u ++ (10 ∷ bs)) none),
          slice_split-cons_yes feed b bs (eq-eqb b 10 is) ∙ sym (ap (λ u. u ∷ slice_split feed bs) none),
        )
    go (inr other) (inl whole) =
        let more : until_feed (b ∷ bs) ≡ b ∷ until_feed bs = cond-false (eqb b 10) [] (b ∷ until_feed bs) (ne_eqb b 10 other) in
        inl (more ∙ ap (λ u. b ∷ u) whole.0, slice_split-cons_no feed b bs (ne_eqb b 10 other) ∙ ap (onto_first b) whole.1)
    go (inr other) (inr (rest, whole, parts)) =
        let more : until_feed (b ∷ bs) ≡ b ∷ until_feed bs = cond-false (eqb b 10) [] (b ∷ until_feed bs) (ne_eqb b 10 other) in
        inr (
          rest,
          ap (λ xs. b ∷ xs) whole ∙ sym (ap (λ u. u ++ (10 ∷ rest)) more),
          slice_split-cons_no feed b bs (ne_eqb b 10 other) ∙ ap (onto_first b) parts ∙ sym (ap (λ u. u ∷ slice_split feed rest) more),
        )

-- so some bytes begin with a line, and after its line feed come the others
first_line : (xs : List ℕ) → 0 < length xs → script_lines xs ≡ until_feed xs ∷ script_lines (drop (length (until_feed xs) + 1) xs)
first_line xs some = go (cut_once xs)
  where
    alone : (ys : List ℕ) → 0 < length ys → lines_of (ys ∷ []) ≡ ys ∷ []
    alone [] some = absurd (omega arith)
    alone (b ∷ bs) some = refl

    go : ((until_feed xs ≡ xs) × (slice_split feed xs ≡ xs ∷ []))
        ⊎ ((rest : List ℕ) × (xs ≡ until_feed xs ++ (10 ∷ rest)) × (slice_split feed xs ≡ until_feed xs ∷ slice_split feed rest))
        → script_lines xs ≡ until_feed xs ∷ script_lines (drop (length (until_feed xs) + 1) xs)
    go (inl (whole, parts)) =
        let size : length (until_feed xs) ≡ length xs = ap length whole in
        let after : drop (length (until_feed xs) + 1) xs ≡ [] = drop_all (length (until_feed xs) + 1) xs (omega (arith, size)) in
        ap lines_of parts ∙ alone xs some ∙ sym (ap (λ u. u ∷ []) whole) ∙ sym (ap (λ r. until_feed xs ∷ script_lines r) after)
    go (inr (rest, whole, parts)) =
        let u = until_feed xs in
        let apart : xs ≡ (u ++ 10 ∷ []) ++ rest = whole ∙ sym (append_assoc u (10 ∷ []) rest) in
        let after : drop (length u + 1) xs ≡ rest =
        ap (drop (length u + 1)) apart ∙ drop_at (u ++ 10 ∷ []) rest (length u + 1) (omega (arith, length-append u (10 ∷ []))) in
        ap lines_of parts ∙ more_lines u (slice_split feed rest) (some_part feed rest) ∙ sym (ap (λ r. u ∷ script_lines r) after)

-- the lines from a place on
pub next_lines : (s : List ℕ) (at end : ℕ) → end ≡ line_end s at → at < length s
    → script_lines (drop at s) ≡ line_from s at ∷ script_lines (drop (end + 1) s)
next_lines s at end is inside =
    let size = length-drop at s in
    let place : at + (length (line_from s at) + 1) ≡ end + 1 = omega (arith, is) in
    first_line (drop at s) (omega (arith, size, inside))
    ∙ ap (λ r. line_from s at ∷ script_lines r) (drop-drop (length (line_from s at) + 1) at s ∙ ap (λ n. drop n s) place)

pub fewer_left : (s : List ℕ) (at end : ℕ) → end ≡ line_end s at → at < length s → length (drop (end + 1) s) < length (drop at s)
fewer_left s at end is inside = omega (arith, length-drop at s, length-drop (end + 1) s, is, inside)
