-- A walk over the bounds of a book that leave the left point of a posted one, in search of one that covers it. Assumes nothing.
use Rattle.std.proofs.Common.{◌≡◌, ℕ, ◌<◌, Option, Some, None, List, length, get_or, sym, ap, ◌∙◌, subst, arith}
use Rattle.std.specs.List.{Contains}
use Rattle.std.proofs.lemmas.List.{get_or-map, length-map, get_or_default}
use Rattle.std.proofs.lemmas.List.Elements.{Contains-get_or}
use Rattle.bounds.specs.declared.row.Row.{Row}
use Rattle.delays.specs.Kind.{Kind}
use Rattle.network.specs.Assignments.{Le}
use Rattle.relaxation.specs.Rows.{Covers, Covered}
use Rattle.relaxation.proofs.Listing.{lefts_of}
use Rattle.relaxation.proofs.Cursors.{Cursor, Found, cursor_goes, cursor_ends}

module _ (k : Kind) (rows : List Row) (b : Row) where
  -- of the bounds that leave the same point, none that is past the cursor covers b
  abbrev pub Uncovered : Option ℕ → Type 0
  Uncovered at = Cursor (lefts_of rows) b.left (λ i. Covers k (get_or rows i b) b → ⊥) at

  left_at : (i : ℕ) → i < length rows → get_or (lefts_of rows) i 0 ≡ (get_or rows i b).left
  left_at i low = get_or-map (λ (r : Row). r.left) rows i b 0 low

  module _ {number : ℕ} (c : Uncovered (Some number)) (row : Row) (read : (r : Row) → row ≡ get_or rows number r) where
    low : number < length rows
    low = omega (arith, c.here.0, length-map rows (λ (r : Row). r.left))

    pub covered_here : row.right ≡ b.right → Le k (k.value row.t row.s) (k.value b.t b.s) → Covered k rows b
    covered_here right delay =
        let left : row.left ≡ b.left = ap (λ (r : Row). r.left) (read b) ∙ (sym (left_at number low) ∙ c.here.2) in
        (row, subst (Contains rows) (sym (read row)) (Contains-get_or rows number row low), record { left = left; right = right; delay = delay })

    pub uncovered_goes : {at : Option ℕ} → (row.right ≡ b.right → Le k (k.value row.t row.s) (k.value b.t b.s) → ⊥)
        → Found (lefts_of rows) number (get_or (lefts_of rows) number 0) at → Uncovered at
    uncovered_goes not f =
        let P : Row → Type 0 = λ r. Covers k r b → ⊥ in
        cursor_goes c (subst P (read b) (λ h. not h.right h.delay)) f

  pub none_covers : Uncovered None → Covered k rows b → ⊥
  none_covers c h =
      let low = h.1.1 in
      let same : get_or rows h.1.0 b ≡ h.0 = get_or_default rows h.1.0 b h.0 low ∙ h.1.2 in
      let P : Row → Type 0 = λ r. Covers k r b in
      let left = left_at h.1.0 low ∙ (ap (λ (r : Row). r.left) same ∙ h.2.left) in
      cursor_ends c h.1.0 (omega (arith, low, length-map rows (λ (r : Row). r.left))) left (subst P (sym same) h.2)
