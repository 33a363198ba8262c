-- The marks that are noted in places: one more, and all but the youngest. Assumes nothing.
use Rattle.std.proofs.Common.{◌≡◌, ℕ, ◌+◌, ◌-◌, ◌<◌, ◌≢◌, List, [], ◌∷◌, ◌++◌, length, get_or, set, refl, sym, ap, ◌∙◌, arith}
use Rattle.std.proofs.lemmas.List.{same_lists, same_from_push, get_or-set_other, get_or-set_same}
use Rattle.std.proofs.lemmas.List.FromFn.{length-map-range_with_len, get_or-map-range_with_len, map-range_with_len_more}
use Rattle.plans.specs.Marks.{Mark, marks_in}

module _ {X : Type 0} where
  -- the mark that is noted in place i
  abbrev pub mark_at : List ℕ → List (List X) → ℕ → Mark X
  mark_at added times i = record { added = get_or added i 0; times = get_or times i [] }

  pub length-marks_in : (depth : ℕ) (added : List ℕ) (times : List (List X)) → length (marks_in depth added times) ≡ depth
  unfolding marks_in
  length-marks_in depth added times = length-map-range_with_len (mark_at added times) 0 depth

  get_or-marks_in : (depth : ℕ) (added : List ℕ) (times : List (List X)) (i : ℕ) (d : Mark X) → i < depth
      → get_or (marks_in depth added times) i d ≡ mark_at added times i
  unfolding marks_in
  get_or-marks_in depth added times i d h = get_or-map-range_with_len (mark_at added times) 0 depth i i d h (omega arith)

  pub marks_none : (added : List ℕ) (times : List (List X)) → marks_in 0 added times ≡ []
  marks_none added times = same_lists _ _ (length-marks_in 0 added times) (λ i d h. absurd (omega (arith, length-marks_in 0 added times)))

  -- one mark more
  pub marks_in-more : (depth : ℕ) (added : List ℕ) (times : List (List X))
      → marks_in (depth + 1) added times ≡ marks_in depth added times ++ mark_at added times depth ∷ []
  unfolding marks_in
  marks_in-more depth added times = map-range_with_len_more (mark_at added times) 0 depth depth (omega arith)

  -- what is noted past them is none of theirs
  pub marks_in-past : (depth : ℕ) (added : List ℕ) (times : List (List X)) (count : ℕ) (noted : List X)
      → marks_in depth (set added depth count) (set times depth noted) ≡ marks_in depth added times
  marks_in-past depth added times count noted =
      let old = length-marks_in depth added times in
      let new = length-marks_in depth (set added depth count) (set times depth noted) in
      same_lists _ _ (omega arith) (λ i d h.
      let low : i < depth = omega arith in
      let other : i ≢ depth = omega arith in
      get_or-marks_in depth (set added depth count) (set times depth noted) i d low
      ∙ (ap (λ a. record { added = a; times = get_or (set times depth noted) i [] }) (get_or-set_other added depth i count 0 other)
      ∙ (ap (λ t. record { added = get_or added i 0; times = t }) (get_or-set_other times depth i noted [] other)
      ∙ sym (get_or-marks_in depth added times i d low))))

  -- so a mark is opened
  pub marks_opened : (depth : ℕ) (added : List ℕ) (times : List (List X)) (count : ℕ) (noted : List X) → depth < length added → depth < length times
      → marks_in (depth + 1) (set added depth count) (set times depth noted) ≡ marks_in depth added times ++ record { added = count; times = noted } ∷ []
  marks_opened depth added times count noted a t =
      marks_in-more depth (set added depth count) (set times depth noted)
      ∙ (ap (λ m. m ++ mark_at (set added depth count) (set times depth noted) depth ∷ []) (marks_in-past depth added times count noted)
      ∙ (ap (λ x. marks_in depth added times ++ record { added = x; times = get_or (set times depth noted) depth [] } ∷ []) (get_or-set_same added depth count 0 a)
      ∙ ap (λ x. marks_in depth added times ++ record { added = count; times = x } ∷ []) (get_or-set_same times depth noted [] t)))

  -- and the youngest is the one noted in the last place
  module _ (depth : ℕ) (added : List ℕ) (times : List (List X)) (some : 0 < depth) where
    pub marks_parted : marks_in depth added times ≡ marks_in (depth - 1) added times ++ mark_at added times (depth - 1) ∷ []
    marks_parted = let e : depth ≡ depth - 1 + 1 = omega arith in ap (λ n. marks_in n added times) e ∙ marks_in-more (depth - 1) added times

    pub marks_youngest : (now before : List (Mark X)) (m : Mark X) → marks_in depth added times ≡ now → now ≡ before ++ m ∷ []
        → mark_at added times (depth - 1) ≡ m
    marks_youngest now before m is split = (same_from_push _ _ _ _ (sym marks_parted ∙ (is ∙ split))).1
