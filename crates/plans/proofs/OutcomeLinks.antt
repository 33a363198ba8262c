-- What the words of a chain name. Assumes nothing.
use Rattle.std.proofs.Common.{◌≡◌, ℕ, suc, ◌+◌, ◌*◌, ◌^◌, ◌<◌, List, [], ◌∷◌, map, length, get_or, take, refl, arith}
use Rattle.std.specs.List.{All}
use Rattle.bounds.specs.declared.row.Row.{Row}
use Rattle.delays.specs.Kind.{Kind}
use Rattle.network.specs.Bounds.{ExactBound, Numbered, floor_of}
use Rattle.network.specs.declared.link.Link.{Link}
use Rattle.network.specs.declared.link.Link.TheVariants.{Book, Floor, Posted}
use Rattle.network.specs.Links.{HasWord, Names}
use Rattle.plans.specs.Rows.{exact_of}
use Rattle.plans.specs.Conflicts.{Named}

-- words other than zero, each at its place, begin the list
pub begins : (list words : List ℕ) → All (λ w. 0 < w) words
    → ((i : ℕ) → i < length words → get_or list i 0 ≡ get_or words i 0) → take (length words) list ≡ words
begins list [] some same = refl
begins [] (w ∷ ws) some same =
    let none : 0 ≡ w = same 0 (omega arith) in
    let more : 0 < w = some 0 w (omega arith) in
    absurd (omega arith)
begins (v ∷ vs) (w ∷ ws) some same =
    let head : v ≡ w = same 0 (omega arith) in
    let tail = begins vs ws (λ i d l. some (suc i) d (omega arith)) (λ i l. same (suc i) (omega arith)) in
    cc

-- a named bound is a numbered one of the book, a floor, or the posted one, and its word tells which
pub data Which (k : Kind) (book : List Row) (posted : Row) (w : ℕ) (b : ExactBound k) : Type 0 where
  of_book : (i : ℕ) → Numbered (map (exact_of k) book) i b → w ≡ 2 ^ 30 + i → Which k book posted w b
  of_floor : (p : ℕ) → b ≡ floor_of k p → w ≡ 2 * 2 ^ 30 + p → Which k book posted w b
  of_posted : b ≡ exact_of k posted → Which k book posted w b

module _ {k : Kind} {book : List Row} {posted : Row} (w : ℕ) (b : ExactBound k) where
  -- only the posted bound has the word of the posted link
  pub first_is_posted : Named k book (posted ∷ []) w b → w ≡ 3 * 2 ^ 30 → b ≡ exact_of k posted
  first_is_posted named e = by (named.link) named.word named.names
    where
      by : (l : Link) → HasWord l w → Names k (map (exact_of k) book) (exact_of k posted ∷ []) l b → b ≡ exact_of k posted
      by (Book number) h names = absurd (omega (arith, h.room, h.value))
      by (Floor point) h names = absurd (omega (arith, h.room, h.value))
      by Posted h names = cc

  pub which : Named k book (posted ∷ []) w b → Which k book posted w b
  which named = by (named.link) named.word named.names
    where
      by : (l : Link) → HasWord l w → Names k (map (exact_of k) book) (exact_of k posted ∷ []) l b → Which k book posted w b
      by (Book number) h names = of_book number names (omega (arith, h.value))
      by (Floor point) h names = of_floor point names (omega (arith, h.value))
      by Posted h names = of_posted (cc)
