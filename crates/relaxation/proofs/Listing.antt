-- What an index lists: nothing, where 65,535 stands for each point; one bound more, where its number was put on top of those of its left
-- point; and one bound fewer, where it was taken off. Assumes nothing.
use Rattle.std.proofs.Common.{◌≡◌, ◌≢◌, ◌+◌, ◌<◌, ◌≤◌, ℕ, List, [], ◌∷◌, ◌++◌, replicate, map, take, set, get_or, length, refl, sym, ap, ◌∙◌, inl, inr, arith}
use Rattle.std.proofs.Common.{⊎_elim, get_or-set_other}
use Rattle.std.proofs.lemmas.Grind.{get_or-set_at}
use Rattle.std.proofs.lemmas.Bool.{cases_eq}
use Rattle.std.proofs.lemmas.List.{get_or-replicate, get_or_append_left, get_or_push, length_push, get_or-map, length-map, length-take-le, take_more}
use Rattle.bounds.specs.declared.row.Row.{Row}
use Rattle.relaxation.specs.declared.by_left.ByLeft.{ByLeft}
use Rattle.relaxation.specs.ByLeft.{Lists, Newest}

-- the left points of rows
abbrev pub lefts_of : List Row → List ℕ
lefts_of rows = map (λ (r : Row). r.left) rows

newest_none : (point kept : ℕ) → kept ≡ 65535 → Newest [] 0 point kept
newest_none point kept e = record { some = λ ne. absurd (ne e); none_since = λ number a b. absurd (omega (arith, b)) }

pub lists_none : (older : List ℕ) → Lists (record { newest = replicate 128 65535; older = older }) []
lists_none older = record {
  few = omega arith;
  newest = λ point h. newest_none point _ (get_or-replicate 128 point 65535 0 h);
  older = λ number h. absurd (omega (arith, h));
}

-- the same of equal numbers
moved : (xs : List ℕ) {before before' point point' kept kept' : ℕ} → before ≡ before' → point ≡ point' → kept ≡ kept'
    → Newest xs before point kept → Newest xs before' point' kept'
moved xs b p k n = rw (← b, ← p, ← k) n

-- the same in another list whose first bounds are these
alike : (xs ys : List ℕ) {before point kept : ℕ} → ((i : ℕ) → i < before → get_or ys i 0 ≡ get_or xs i 0)
    → Newest xs before point kept → Newest ys before point kept
alike xs ys same n = record {
  some = λ ne. let h = n.some ne in (h.0, same _ h.0 ∙ h.1);
  none_since = λ i a b e. n.none_since i a b (sym (same i b) ∙ e);
}

-- one bound more or fewer that leaves another point makes no difference
one_more : (xs : List ℕ) {before point kept : ℕ} → get_or xs before 0 ≢ point → Newest xs before point kept → Newest xs (before + 1) point kept
one_more xs {before} other n = record {
  some = λ ne. let h = n.some ne in (omega (arith, h.0), h.1);
  none_since = λ i a b e. elim (cases_eq i before) [
    | inl o ↦ other (ap (λ j. get_or xs j 0) (sym o) ∙ e)
    | inr o ↦ n.none_since i a (omega arith) e
  ];
}

one_fewer : (xs : List ℕ) {before point kept : ℕ} → get_or xs before 0 ≢ point → Newest xs (before + 1) point kept → Newest xs before point kept
one_fewer xs {before} {point} {kept} other n = record {
  some = λ ne.
      let h = n.some ne in
      let apart : kept ≢ before = λ o. other (ap (λ j. get_or xs j 0) (sym o) ∙ h.1) in
      (omega (arith, h.0, apart), h.1);
  none_since = λ i a b. n.none_since i a (omega arith);
}

module _ (newest older lefts : List ℕ) (number left : ℕ) (counted : length lefts ≡ number) (room : number < 65535) where
  abbrev more : List ℕ
  more = lefts ++ left ∷ []

  counted_more : length more ≡ number + 1
  counted_more = omega (arith, length_push lefts left)

  last : get_or more number 0 ≡ left
  last = get_or_push lefts left 0 number counted

  same : (i : ℕ) → i < number → get_or more i 0 ≡ get_or lefts i 0
  same i h = get_or_append_left lefts (left ∷ []) 0 i (omega arith)

  longer : {before point kept : ℕ} → before ≤ number → Newest lefts before point kept → Newest more before point kept
  longer low = alike lefts more (λ i h. same i (omega arith))

  shorter : {before point kept : ℕ} → before ≤ number → Newest more before point kept → Newest lefts before point kept
  shorter low = alike more lefts (λ i h. sym (same i (omega arith)))

  itself : Newest more (number + 1) left number
  itself = record {
    some = λ ne. (omega arith, last);
    none_since = λ i a b. absurd (⊎_elim (λ e. omega arith) (λ h. omega arith) a);
  }

  module _ (points : length newest ≡ 128) (places : number < length older) (h : left < 128) where
    pub lists_push : Lists (record { newest = newest; older = older }) lefts
        → Lists (record { newest = set newest left number; older = set older number (get_or newest left 0) }) more
    lists_push l = record {
      few = omega (arith, counted_more);
      newest = λ p u. elim (cases_eq p left) [
        | inl o ↦ moved more (sym counted_more) (sym o) (sym (get_or-set_at newest left p number 0 o (omega arith))) itself
        | inr ne ↦
            let old = longer (omega arith) (moved lefts counted refl refl (l.newest p u)) in
            moved more (sym counted_more) refl (sym (get_or-set_other newest left p number 0 ne)) (one_more more (λ e. ne (sym e ∙ last)) old)
      ];
      older = λ i u. elim (cases_eq i number) [
        | inl o ↦
            let old = longer (omega arith) (moved lefts counted refl refl (l.newest left h)) in
            moved more (sym o) (sym (ap (λ j. get_or more j 0) o ∙ last)) (sym (get_or-set_at older number i (get_or newest left 0) 0 o places)) old
        | inr ne ↦
            let low : i < number = omega (arith, counted_more) in
            let old = longer (omega arith) (l.older i (omega arith)) in
            moved more refl (sym (same i low)) (sym (get_or-set_other older number i (get_or newest left 0) 0 ne)) old
      ];
    }

    pub lists_pop : Lists (record { newest = newest; older = older }) more
        → Lists (record { newest = set newest left (get_or older number 0); older = older }) lefts
    lists_pop l = record {
      few = omega arith;
      newest = λ p u. elim (cases_eq p left) [
        | inl o ↦
            let old = shorter (omega arith) (moved more refl last refl (l.older number (omega (arith, counted_more)))) in
            moved lefts (sym counted) (sym o) (sym (get_or-set_at newest left p (get_or older number 0) 0 o (omega arith))) old
        | inr ne ↦
            let old = one_fewer more (λ e. ne (sym e ∙ last)) (moved more counted_more refl refl (l.newest p u)) in
            moved lefts (sym counted) refl (sym (get_or-set_other newest left p (get_or older number 0) 0 ne)) (shorter (omega arith) old)
      ];
      older = λ i u. shorter (omega arith) (moved more refl (same i (omega arith)) refl (l.older i (omega (arith, counted_more))));
    }

-- The bounds of a book are listed one after the other, each by its row.
module _ (rows : List Row) (number : ℕ) (low : number < length rows) where
  pub counted_rows : length (take number (lefts_of rows)) ≡ number
  counted_rows = length-take-le number (lefts_of rows) (omega (arith, length-map rows (λ (r : Row). r.left)))

  pub lists_row : (index : ByLeft) (row : Row) (left : ℕ) → ((r : Row) → row ≡ get_or rows number r) → left ≡ row.left
      → Lists index (take number (lefts_of rows) ++ left ∷ []) → Lists index (take (number + 1) (lefts_of rows))
  lists_row index row left read e l =
      let more = take_more (lefts_of rows) number 0 (omega (arith, length-map rows (λ (r : Row). r.left))) in
      let same : get_or (lefts_of rows) number 0 ≡ left =
      get_or-map (λ (r : Row). r.left) rows number row 0 low ∙ (ap (λ (r : Row). r.left) (sym (read row)) ∙ sym e) in
      rw (more, same) l
