-- Bounds added one after the other to any book. Assumes nothing.
use Rattle.std.proofs.Common.{◌≡◌, ℕ, ◌+◌, ◌-◌, ◌<◌, ◌≤◌, List, [], ◌∷◌, ◌++◌, map, length, get_or, take, Ok, Err, Result, sym, refl, ap, ◌∙◌, subst, arith}
use Rattle.std.proofs.lemmas.List.{append_assoc, append-nil, length-map, length_push, length-take-le, map_more, take_all}
use Rattle.bounds.specs.declared.bound.Bound.{Bound}
use Rattle.bounds.specs.declared.row.Row.{Row}
use Rattle.bounds.specs.Making.{row_of}
use Rattle.books.specs.declared.fault.BookFault.{BookFault}
use Rattle.books.specs.declared.fault.BookFault.TheVariants.{Full}
use Rattle.books.specs.Meaning.{Meaning, with_bounds}
use Rattle.books.specs.Calls.{OneByOne, Adding, AddingAll, Went, still, adding}
use Rattle.books.proofs.Meanings.{same_meaning}

with_none : (m : Meaning) → m ≡ with_bounds m []
with_none m = same_meaning _ _ refl (sym (append-nil m.added)) (omega arith)

with_more : (m : Meaning) (rows : List Row) (row : Row) → with_bounds (with_bounds m rows) (row ∷ []) ≡ with_bounds m (rows ++ row ∷ [])
with_more m rows row = same_meaning _ _ refl (append_assoc m.added rows (row ∷ [])) (omega (arith, length_push rows row))

module _ {S : Type 0} (meaning : S → Meaning) (adds : S → Row → S → Type 0) where
  one_more : (before mid after : S) (rows : List Row) (row : Row) → OneByOne meaning adds before rows mid
      → Adding meaning {U = Unit {0}} adds mid row after (Ok tt) → OneByOne meaning adds before (rows ++ row ∷ []) after
  one_more before mid after [] row e a = (after, subst (λ x. Adding meaning {U = Unit {0}} adds x row after (Ok tt)) e a, refl)
  one_more before mid after (r ∷ rows) row (next, a, rest) b = (next, a, one_more next mid after rows row rest b)

  -- calls that add bounds one after the other are calls
  went_on : (cuts : S → ℕ → S → Type 0) (a b c : S) (bounds : List Bound) → Went meaning adds cuts a b
      → OneByOne meaning adds b (map row_of bounds) c → Went meaning adds cuts a c
  went_on cuts a b c [] w e = subst (Went meaning adds cuts a) (sym e) w
  went_on cuts a b c (x ∷ xs) w (next, step, rest) = went_on cuts a next c xs (adding x (Ok tt) w step) rest

  pub went_all : (cuts : S → ℕ → S → Type 0) (before after : S) (bounds : List Bound) (r : Result (Unit {0}) BookFault)
      → AddingAll meaning adds before (map row_of bounds) after r → Went meaning adds cuts before after
  went_all cuts before after bounds (Ok u) (room, means, steps) = went_on cuts before before after bounds still steps
  went_all cuts before after bounds (Err Full) (none, same) = subst (Went meaning adds cuts before) (sym same) still

module _ {S : Type 0} (meaning : S → Meaning) (adds : S → Row → S → Type 0) (start : S) (bounds : List Bound) where
  -- the first i bounds are added, and there are places for all
  pub record Added (i : ℕ) (book : S) : Type 0 where
    pub room : length bounds ≤ (meaning start).free
    pub means : meaning book ≡ with_bounds (meaning start) (map row_of (take i bounds))
    pub steps : OneByOne meaning adds start (map row_of (take i bounds)) book

  pub added_none : length bounds ≤ (meaning start).free → Added 0 start
  added_none h = record { room = h; means = with_none (meaning start); steps = refl }

  pub added_more : (i : ℕ) (book after : S) (x : Bound) → i < length bounds → x ≡ get_or bounds i x → Added i book
      → Adding meaning {U = Unit {0}} adds book (row_of x) after (Ok tt) → Added (i + 1) after
  added_more i book after x h is a s =
      let rows = map row_of (take i bounds) in
      let more : map row_of (take (i + 1) bounds) ≡ rows ++ row_of x ∷ []
      = map_more row_of bounds i x h ∙ ap (λ y. rows ++ row_of y ∷ []) (sym is) in
      record {
        room = a.room;
        means = s.1 ∙ ap (λ n. with_bounds n (row_of x ∷ [])) a.means ∙ with_more (meaning start) rows (row_of x) ∙ ap (with_bounds (meaning start)) (sym more);
        steps = subst (λ l. OneByOne meaning adds start l after) (sym more) (one_more meaning adds start book after rows (row_of x) a.steps s);
      }

  -- there is a place for the next
  pub never_full : (i : ℕ) (book after : S) (row : Row) (e : BookFault) → i < length bounds → Added i book
      → Adding meaning {U = Unit {0}} adds book row after (Err e) → ⊥
  never_full i book after row Full h a (none, same) =
      let left : (meaning book).free ≡ (meaning start).free - length (map row_of (take i bounds)) = ap (λ m. m.free) a.means in
      let few : length (map row_of (take i bounds)) ≡ i = length-map (take i bounds) row_of ∙ length-take-le i bounds (omega arith) in
      let room = a.room in
      omega arith

  pub added_all : (i : ℕ) (book : S) → length bounds ≤ i → Added i book → AddingAll meaning {U = Unit {0}} adds start (map row_of bounds) book (Ok tt)
  added_all i book h a =
      let all : map row_of (take i bounds) ≡ map row_of bounds = ap (map row_of) (take_all i bounds h) in
      let room = a.room in (
        omega (arith, length-map bounds row_of),
        a.means ∙ ap (with_bounds (meaning start)) all,
        subst (λ l. OneByOne meaning adds start l book) all a.steps,
      )
