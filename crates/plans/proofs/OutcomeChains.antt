-- The chains of plans with known outcomes: the bounds in force leave no other. Assumes nothing.
use Rattle.std.proofs.Common.{◌≡◌, ℕ, zero, suc, ◌*◌, ◌^◌, ◌<◌, ◌⊎◌, List, [], ◌∷◌, length, get_or, take, pos, negsuc, true, refl, sym, ap, ◌∙◌}
use Rattle.std.proofs.Common.{inl, inr, arith}
use Rattle.std.proofs.lemmas.Bool.{both_ways}
use Rattle.std.proofs.lemmas.List.Elements.{All-nil, All-cons}
use Rattle.std.specs.List.{All}
use Rattle.bounds.specs.declared.row.Row.{Row}
use Rattle.delays.specs.Kind.{Kind, Lawful}
use Rattle.delays.specs.TicksLaws.{ticks_lawful}
use Rattle.delays.specs.RankedLaws.{ranked_lawful}
use Rattle.delays.specs.Ticks.{ticks_kind}
use Rattle.delays.specs.Ranked.{ranked_kind}
use Rattle.network.specs.Bounds.{ExactBound, Bounds, floor_of}
use Rattle.network.specs.Chains.{Chain}
use Rattle.network.proofs.Counting.{apart_head}
use Rattle.plans.specs.Conflicts.{Named, ChainWritten}
use Rattle.plans.specs.Known.{bound, at_most_five, one_step, next_step, ChainIs}
use Rattle.plans.proofs.OutcomeLinks.{begins, first_is_posted, Which, of_book, of_floor, of_posted, which}

-- one word, or two
some_one : (v : ℕ) → 0 < v → All (λ w. 0 < w) (v ∷ [])
some_one v l = All-cons (λ w. 0 < w) v [] l (All-nil (λ w. 0 < w))

one_word : (list : List ℕ) (v : ℕ) → 0 < v → get_or list 0 0 ≡ v → take 1 list ≡ v ∷ []
one_word list v some e = begins list (v ∷ []) (some_one v some) same
  where
    same : (i : ℕ) → i < 1 → get_or list i 0 ≡ get_or (v ∷ []) i 0
    same zero l = e
    same (suc i) l = absurd (omega arith)

two_words : (list : List ℕ) (v w : ℕ) → 0 < v → 0 < w → get_or list 0 0 ≡ v → get_or list 1 0 ≡ w → take 2 list ≡ v ∷ (w ∷ [])
two_words list v w some more e f = begins list (v ∷ (w ∷ [])) (All-cons (λ w. 0 < w) v (w ∷ []) some (some_one w more)) same
  where
    same : (i : ℕ) → i < 2 → get_or list i 0 ≡ get_or (v ∷ (w ∷ [])) i 0
    same zero l = e
    same (suc zero) l = f
    same (suc (suc i)) l = absurd (omega arith)

-- the word that a list has at its start, where a bound is posted
first_word : {k : Kind} {n : ℕ} {book : List Row} {posted : Row} {before after : List ℕ} {c : ℕ} → ChainWritten k n book (posted ∷ []) before after c
    → get_or after 0 0 ≡ 3 * 2 ^ 30
first_word w = by w.first
  where
    by : {posted : Row} {rest : List Row} {v : ℕ} → (posted ∷ rest ≡ []) ⊎ (v ≡ 3 * 2 ^ 30) → v ≡ 3 * 2 ^ 30
    by (inl e) = absurd (cc)
    by (inr e) = e

pub alone : ChainIs ticks_kind 1 [] (bound 0 0 (negsuc 0) (pos 0)) (0xC0000000 ∷ [])
alone before after c w = (count, rw count (one_word after (3 * 2 ^ 30) (omega arith) (first_word w)))
  where
    some : (row : Bounds ticks_kind) → Chain ticks_kind row → 0 < length row
    some [] chain = absurd (both_ways true chain.below refl)
    some (b ∷ bs) chain = omega arith

    count : c ≡ 1
    count = omega (arith, some w.row w.chain.chain, w.count, w.upto)

-- the two points of a bound
abbrev Ends : {k : Kind} → ℕ → ℕ → ExactBound k → Type 0
Ends left right b = (b.left ≡ left) × (b.right ≡ right)

ends_of : {k : Kind} {b c : ExactBound k} → b ≡ c → Ends c.left c.right b
ends_of e = (ap (λ x. x.left) e, ap (λ x. x.right) e)

module _ (k : Kind) (n : ℕ) (book : List Row) (posted : Row) where
  -- the first bound of a chain that is written is the posted one
  head_ends : (row : Bounds k) (c : ℕ) (list : List ℕ) → 0 < c
      → ((i : ℕ) → i < c → Named k book (posted ∷ []) (get_or list i 0) (get_or row i (floor_of k 0))) → get_or list 0 0 ≡ 3 * 2 ^ 30
      → Ends posted.left posted.right (get_or row 0 (floor_of k 0))
  head_ends row c list some names e = ends_of (first_is_posted (get_or list 0 0) (get_or row 0 (floor_of k 0)) (names 0 some) e)

  -- every bound that is named with the word v, leaves the right point of the posted one and can be the second of a chain comes back at once,
  -- and v is w
  abbrev ComesBack : ℕ → Type 0
  ComesBack w = (v : ℕ) (d : ExactBound k) → d.left ≡ posted.right → (d.right ≡ posted.left) ⊎ (2 < n) → Which k book posted v d
      → (d.right ≡ posted.left) × (v ≡ w)

  -- then a chain is the posted bound and the one with the word w
  there_and_back : Lawful k → (w : ℕ) → 0 < w → (posted.left ≡ posted.right → ⊥) → ComesBack w → ChainIs k n book posted (0xC0000000 ∷ (w ∷ []))
  there_and_back laws w some apart back before after c wr = by wr.row wr.chain.chain wr.count wr.words
    where
      by : (row : Bounds k) → Chain k row → length row ≡ c
          → ((i : ℕ) → i < c → Named k book (posted ∷ []) (get_or after i 0) (get_or row i (floor_of k 0)))
          → (c ≡ 2) × (take c after ≡ 0xC0000000 ∷ (w ∷ []))
      by [] chain count names = absurd (both_ways (k.leq k.zero k.zero) chain.below (laws.reflexive k.zero))
      by (b ∷ []) chain count names =
          let ends : Ends posted.left posted.right b = head_ends (b ∷ []) c after (omega arith) names (first_word wr) in
          absurd (apart (sym ends.0 ∙ chain.closed.0 ∙ sym chain.closed.1 ∙ ends.1))
      by (b ∷ (d ∷ [])) chain count names =
          let ends : Ends posted.left posted.right b = head_ends (b ∷ (d ∷ [])) c after (omega arith) names (first_word wr) in
          let next = chain.closed.1.0 ∙ ends.1 in
          let home = chain.closed.1.1 ∙ sym chain.closed.0 ∙ ends.0 in
          let known = back (get_or after 1 0) d next (inl home) (which (get_or after 1 0) d (names 1 (omega arith))) in
          (sym count, rw (sym count) (two_words after (3 * 2 ^ 30) w (omega arith) some (first_word wr) known.1))
      by (b ∷ (d ∷ (f ∷ rest))) chain count names =
          let ends : Ends posted.left posted.right b = head_ends (b ∷ (d ∷ (f ∷ rest))) c after (omega arith) names (first_word wr) in
          let next = chain.closed.1.0 ∙ ends.1 in
          let known = back (get_or after 1 0) d next (inr (omega (arith, wr.upto, count))) (which (get_or after 1 0) d (names 1 (omega arith))) in
          let again : b.left ≡ f.left = ends.0 ∙ sym known.0 ∙ sym chain.closed.1.1.0 in
          absurd (apart_head b.left _ chain.apart 1 0 (omega arith) again)

pub over_floor : ChainIs ticks_kind 2 [] (bound 1 0 (negsuc 4) (pos 0)) (0xC0000000 ∷ (0x80000001 ∷ []))
over_floor = there_and_back ticks_kind 2 [] (bound 1 0 (negsuc 4) (pos 0)) ticks_lawful 0x80000001 (omega arith) (λ e. omega arith) back
  where
    back : ComesBack ticks_kind 2 [] (bound 1 0 (negsuc 4) (pos 0)) 0x80000001
    back v d left right (of_book i numbered e) = absurd (omega (arith, numbered.0))
    back v d left (inl right) (of_floor p e f) = (right, omega (arith, f, right, (ends_of e).1))
    back v d left (inr more) (of_floor p e f) = absurd (omega arith)
    back v d left right (of_posted e) = absurd (omega (arith, left, (ends_of e).0))

pub over_first : ChainIs ticks_kind 2 (at_most_five ∷ []) (bound 0 1 (negsuc 5) (pos 0)) (0xC0000000 ∷ (0x40000000 ∷ []))
over_first = there_and_back ticks_kind 2 (at_most_five ∷ []) (bound 0 1 (negsuc 5) (pos 0)) ticks_lawful 0x40000000 (omega arith) (λ e. omega arith) back
  where
    back : ComesBack ticks_kind 2 (at_most_five ∷ []) (bound 0 1 (negsuc 5) (pos 0)) 0x40000000
    back v d left right (of_book zero numbered e) = ((ends_of numbered.1).1, e)
    back v d left right (of_book (suc i) numbered e) = absurd (omega (arith, numbered.0))
    back v d left right (of_floor p e f) = absurd (omega (arith, left, (ends_of e).0))
    back v d left right (of_posted e) = absurd (omega (arith, left, (ends_of e).0))

pub over_second : ChainIs ranked_kind 3 (one_step ∷ (next_step ∷ [])) (bound 2 1 (pos 0) (pos 0)) (0xC0000000 ∷ (0x40000001 ∷ []))
over_second =
    there_and_back ranked_kind 3 (one_step ∷ (next_step ∷ [])) (bound 2 1 (pos 0) (pos 0)) ranked_lawful 0x40000001 (omega arith) (λ e. omega arith) back
  where
    back : ComesBack ranked_kind 3 (one_step ∷ (next_step ∷ [])) (bound 2 1 (pos 0) (pos 0)) 0x40000001
    back v d left right (of_book zero numbered e) = absurd (omega (arith, left, (ends_of numbered.1).0))
    back v d left right (of_book (suc zero) numbered e) = ((ends_of numbered.1).1, e)
    back v d left right (of_book (suc (suc i)) numbered e) = absurd (omega (arith, numbered.0))
    back v d left right (of_floor p e f) = absurd (omega (arith, left, (ends_of e).0))
    back v d left right (of_posted e) = absurd (omega (arith, left, (ends_of e).0))
