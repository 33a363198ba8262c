-- Reads of lists, and what the checks of times and of chains keep from turn to turn. Assumes nothing.
use Rattle.std.proofs.Common.{◌≡◌, ℕ, ◌+◌, ◌<◌, ◌≤◌, Bool, List, [], ◌∷◌, map, length, get_or, take}
use Rattle.std.proofs.Common.{drop, Some, None, Decides, Option, sym, refl, ap, ◌∙◌, subst, arith, Bor, option_copied}
use Rattle.std.specs.Slice.{IsItemAt}
use Rattle.std.proofs.lemmas.Simd.{map-map}
use Rattle.std.specs.List.{All}
use Rattle.std.proofs.lemmas.List.Elements.{All-map}
use Rattle.std.proofs.lemmas.List.{get_or-map, length-map, drop_more, drop_all}
use Rattle.delays.specs.Kind.{Kind, Exact, Within}
use Rattle.delays.specs.Totals.{total, Summed}
use Rattle.network.specs.Bounds.{Numbered}
use Rattle.network.specs.Assignments.{Lt}
use Rattle.network.specs.Walks.{sum_of, Walk, lefts, Apart}
use Rattle.network.specs.Chains.{Chain}
use Rattle.network.specs.Edges.{bound_of, bounds_of, LinkRead}
use Rattle.network.specs.Checks.{sum_upto, PastReach, RowSummed, Cycle}
use Rattle.network.proofs.Counting.{apart_head, apart_tail, apart_cons, apart_nil}
use Rattle.network.specs.declared.link.Link.TheVariants.{Book}
use Rattle.network.specs.declared.edge.Edge.{Edge}

-- what is left from a place on begins with the element there
pub drop_read : {X : Type 0} (xs : List X) (i : ℕ) (x : X) → i < length xs → x ≡ get_or xs i x → drop i xs ≡ x ∷ drop (i + 1) xs
drop_read xs i x h is = drop_more xs i x h ∙ ap (λ y. y ∷ drop (i + 1) xs) (sym is)

all_unmap : {X Y : Type 0} (P : Y → Type 0) (f : X → Y) (xs : List X) → All P (map f xs) → All (λ x. P (f x)) xs
all_unmap P f xs a k d h = subst P (get_or-map f xs k d (f d) h) (a k (f d) (rw (length-map xs f) h))

module _ {X : Type 0} (k : Kind) (means : X → Exact k) where
  -- the left points of a row, and its sum, by its edges
  pub lefts_are : (row : List (Edge X)) → lefts (bounds_of k means row) ≡ map (λ e. e.left) row
  lefts_are row = map-map (λ b. b.left) (bound_of k means) row

  pub sum_is : (row : List (Edge X)) → sum_of k (bounds_of k means row) ≡ total k (map (λ e. means e.delay) row)
  sum_is row = ap (total k) (map-map (λ b. b.delay) (bound_of k means) row)

  -- what is so of the sums of a row's delays is so of those of its bounds
  pub row_summed : (row : List (Edge X)) (r : Option X) → Summed k means (λ e. means e.delay) row r → RowSummed k means row r
  row_summed row None past = (past.0, past.1, subst (λ x. k.reach < k.size x) (sym (sum_is (take past.0 row))) past.2)
  row_summed row (Some v) sums = (sums.0 ∙ sym (sum_is row), λ n h. subst (Within k) (sym (sum_is (take n row))) (sums.1 n h))

  -- the bound of an edge has the edge's number
  pub numbered_bound : (row : List (Edge X)) (i : ℕ) (e : Edge X) → Numbered row i e → Numbered (bounds_of k means row) i (bound_of k means e)
  numbered_bound row i e at = (
    let low : i < length row = at.0 in omega (arith, length-map row (bound_of k means)),
    ap (bound_of k means) at.1 ∙ sym (get_or-map (bound_of k means) row i e (bound_of k means e) at.0),
  )

  -- what `get` lends at a number, copied, is the edge that the link with that number names
  pub copied_named : (book : List (Edge X)) (posted : Edge X) (i : ℕ) (r : Option (Bor (Edge X))) → IsItemAt book i r
      → LinkRead k means book posted (Book i) (option_copied r)
  copied_named book posted i None at = λ b named.
      let low : i < length (bounds_of k means book) = named.0 in omega (arith, at, length-map book (bound_of k means))
  copied_named book posted i (Some e) at = numbered_bound book i e.now (at.3.0, at.1)

  -- What is left leads on from `at` exactly when its first edge leaves `at`, and the others lead on from there.
  module _ (row : List (Edge X)) (to : ℕ) (at i : ℕ) (e : Edge X) (h : i < length row) (is : e ≡ get_or row i e) where
    split_walk : Walk at (bounds_of k means (drop i row)) to → (e.left ≡ at) × Walk e.right (bounds_of k means (drop (i + 1) row)) to
    split_walk = subst (λ l. Walk at (bounds_of k means l) to) (drop_read row i e h is)

    pub leads_first : Walk at (bounds_of k means (drop i row)) to → e.left ≡ at
    leads_first w = (split_walk w).0

    pub leads_others : Walk at (bounds_of k means (drop i row)) to → Walk e.right (bounds_of k means (drop (i + 1) row)) to
    leads_others w = (split_walk w).1

    pub leads_more : e.left ≡ at → Walk e.right (bounds_of k means (drop (i + 1) row)) to → Walk at (bounds_of k means (drop i row)) to
    leads_more first others = subst (λ l. Walk at (bounds_of k means l) to) (sym (drop_read row i e h is)) (first, others)

  -- at the end of the row nothing is left
  pub leads_end : (row : List (Edge X)) (to at i : ℕ) → length row ≤ i → Walk at (bounds_of k means (drop i row)) to → at ≡ to
  leads_end row to at i h = subst (λ l. Walk at (bounds_of k means l) to) (drop_all i row h)

  pub ends_there : (row : List (Edge X)) (to at i : ℕ) → length row ≤ i → at ≡ to → Walk at (bounds_of k means (drop i row)) to
  ends_there row to at i h = subst (λ l. Walk at (bounds_of k means l) to) (sym (drop_all i row h))

  pub ruleset walk_steps = (leads_first, leads_others, leads_more, leads_end, ends_there)

  -- the left points of a row are apart exactly when the first is none of the others, and those are apart
  module _ (row : List (Edge X)) (e : Edge X) (others : List (Edge X)) (is : row ≡ e ∷ others) where
    split_lefts : Apart (map (λ x. x.left) row) → Apart (e.left ∷ map (λ x. x.left) others)
    split_lefts = subst (λ (l : List (Edge X)). Apart (map (λ x. x.left) l)) is

    pub apart_first : Apart (map (λ x. x.left) row) → All (λ x. ¬ (e.left ≡ x.left)) others
    apart_first a = all_unmap (λ p. ¬ (e.left ≡ p)) (λ x. x.left) others (apart_head e.left (map (λ x. x.left) others) (split_lefts a))

    pub apart_others : Apart (map (λ x. x.left) row) → Apart (map (λ x. x.left) others)
    apart_others a = apart_tail e.left (map (λ x. x.left) others) (split_lefts a)

    pub apart_more : All (λ x. ¬ (e.left ≡ x.left)) others → Apart (map (λ x. x.left) others) → Apart (map (λ x. x.left) row)
    apart_more none apart =
        subst (λ (l : List (Edge X)). Apart (map (λ x. x.left) l)) (sym is)
        (apart_cons e.left (map (λ x. x.left) others) (All-map (λ p. ¬ (e.left ≡ p)) (λ x. x.left) others none) apart)

  pub apart_none : (row : List (Edge X)) → length row ≡ 0 → Apart (map (λ x. x.left) row)
  apart_none [] e = apart_nil
  apart_none (x ∷ xs) e = absurd (omega arith)

  pub ruleset apart_steps = (apart_first, apart_others, apart_more, apart_none)

  -- a cycle whose sum is s is a chain exactly when s is below zero
  pub chain_decided : (row : List (Edge X)) (r : Bool) (s : Exact k) → Cycle k means row
      → s ≡ sum_of k (bounds_of k means row) → Decides r (Lt k s k.zero) → Decides r (Chain k (bounds_of k means row))
  chain_decided row r s cycle sum below = (
    λ e. record { start = cycle.0; closed = cycle.1; apart = cycle.2; below = subst (λ x. Lt k x k.zero) sum (below.0 e) },
    λ c. below.1 (subst (λ x. Lt k x k.zero) (sym sum) c.below),
  )

  -- an empty row is a cycle
  pub cycle_empty : (row : List (Edge X)) → length row ≡ 0 → Cycle k means row
  cycle_empty [] e = (0, refl, apart_nil)
  cycle_empty (x ∷ xs) e = absurd (omega arith)

  -- a row is a cycle where it leads from some point back to it, and its left points are apart
  pub cycle_made : (row : List (Edge X)) (p : ℕ) → Walk p (bounds_of k means row) p → Apart (map (λ e. e.left) row) → Cycle k means row
  cycle_made row p w a = (p, w, subst Apart (sym (lefts_are row)) a)

  pub cycle_apart : (row : List (Edge X)) → Cycle k means row → Apart (map (λ e. e.left) row)
  cycle_apart row c = subst Apart (lefts_are row) c.2

  -- a cycle leads from its first left point back to it
  pub cycle_leads : (row : List (Edge X)) (e : Edge X) → 0 < length row → e ≡ get_or row 0 e → Cycle k means row → Walk e.left (bounds_of k means row) e.left
  cycle_leads [] e h is c = absurd (omega arith)
  cycle_leads (x ∷ xs) e h is c = subst (λ q. Walk q (bounds_of k means (x ∷ xs)) q) (sym c.1.0 ∙ ap (λ y. y.left) (sym is)) c.1

  pub ruleset cycle_steps = (cycle_empty, cycle_leads)

  -- sums within the reach are not past it
  pub not_past : (row : List (Edge X)) → ((n : ℕ) → n ≤ length row → Within k (sum_upto k means row n)) → PastReach k means row → ⊥
  not_past row within past = let here : Within k (sum_upto k means row past.0) = within past.0 past.1 in let over = past.2 in omega arith
