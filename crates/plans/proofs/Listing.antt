-- The index of a book's bounds, as bounds are taken off it. Assumes nothing.
use Rattle.std.proofs.Common.{◌≡◌, ℕ, ◌+◌, ◌<◌, ◌≤◌, List, [], ◌∷◌, ◌++◌, map, length, get_or, take, sym, subst, ap, ◌∙◌, arith}
use Rattle.std.specs.List.{All}
use Rattle.std.proofs.lemmas.List.{take_more, map_push, length-map, length-take-le}
use Rattle.bounds.specs.declared.row.Row.{Row}
use Rattle.relaxation.specs.ByLeft.{Lists}
use Rattle.relaxation.specs.declared.by_left.ByLeft.{ByLeft}

-- the left points of the first n rows
abbrev pub lefts_upto : List Row → ℕ → List ℕ
lefts_upto rows n = map (λ r. r.left) (take n rows)

pub lefts_more : (rows : List Row) (n : ℕ) (d : Row) → n < length rows → lefts_upto rows (n + 1) ≡ lefts_upto rows n ++ (get_or rows n d).left ∷ []
lefts_more rows n d low = ap (map (λ r. r.left)) (take_more rows n d low) ∙ map_push (λ r. r.left) (take n rows) (get_or rows n d)

pub lefts_length : (rows : List Row) (n : ℕ) → n ≤ length rows → length (lefts_upto rows n) ≡ n
lefts_length rows n low = length-map (take n rows) (λ r. r.left) ∙ length-take-le n rows low

-- the last bound is taken off
pub listed_less : (before after : ByLeft) (rows : List Row) (n m : ℕ) (d : Row) (left : ℕ) → n + 1 ≡ m → m ≤ length rows → length rows ≤ 65535
    → (get_or rows n d).left ≡ left → left < 128
    → ((lefts : List ℕ) → Lists before (lefts ++ left ∷ []) → length lefts ≡ n → n < 65535 → left < 128 → Lists after lefts)
    → Lists before (lefts_upto rows m) → Lists after (lefts_upto rows n)
listed_less before after rows n m d left e low few is small taken listed =
    let long : length (lefts_upto rows n) ≡ n = lefts_length rows n (omega arith) in
    let split : lefts_upto rows m ≡ lefts_upto rows n ++ left ∷ [] =
    ap (lefts_upto rows) (sym e) ∙ (lefts_more rows n d (omega arith) ∙ ap (λ x. lefts_upto rows n ++ x ∷ []) is) in
    taken (lefts_upto rows n) (subst (Lists before) split listed) long (omega arith) small
