-- The earliest times of the plans with known outcomes, and their chains. Assumes nothing.
use Rattle.std.proofs.Common.{◌≡◌, ℕ, zero, suc, ◌<◌, true, List, [], ◌∷◌, map, get_or, ℤ, pos, negsuc, refl, ◌∙◌, arith}
use Rattle.std.specs.List.{Contains, list_all}
use Rattle.std.proofs.lemmas.List.Elements.{All-nil, All-cons}
use Rattle.bounds.specs.declared.row.Row.{Row}
use Rattle.delays.specs.Kind.{Kind, Exact, Lawful}
use Rattle.delays.specs.Ticks.{tick, ticks_kind}
use Rattle.delays.specs.Ranked.{rank, ranked_kind}
use Rattle.delays.specs.TicksLaws.{ticks_lawful}
use Rattle.delays.specs.RankedLaws.{ranked_lawful}
use Rattle.network.specs.Bounds.{ExactBound, Bounds, floor_of}
use Rattle.network.specs.Assignments.{Lt}
use Rattle.network.specs.Walks.{sum_of}
use Rattle.network.specs.Chains.{ChainIn}
use Rattle.network.specs.Earliest.{Reached}
use Rattle.network.proofs.Counting.{apart_cons, apart_one}
use Rattle.network.proofs.InForce.{floor_held}
use Rattle.plans.specs.Rows.{exact_of, force, Times}
use Rattle.plans.specs.Known.{bound, at_most_five, one_step, next_step}
use Rattle.plans.proofs.OutcomeCalls.{MetBy, timed}

-- two bounds that lead there and back, and come to less than zero
pub chain_of_two : (k : Kind) (edges : Bounds k) (b d : ExactBound k) → Contains edges b → Contains edges d → d.left ≡ b.right → d.right ≡ b.left
    → (b.left ≡ b.right → ⊥) → Lt k (sum_of k (b ∷ (d ∷ []))) k.zero → ChainIn k edges (b ∷ (d ∷ []))
chain_of_two k edges b d has_b has_d there back other below = record {
  chain = record {
    start = b.left;
    closed = (refl, (there, back));
    apart =
        apart_cons b.left (d.left ∷ []) (All-cons (λ y. ¬ (b.left ≡ y)) d.left [] (λ e. other (e ∙ there)) (All-nil (λ y. ¬ (b.left ≡ y)))) (apart_one d.left);
    below = below;
  };
  held = All-cons (Contains edges) b (d ∷ []) has_b (All-cons (Contains edges) d [] has_d (All-nil (Contains edges)));
}

module _ (k : Kind) (edges : Bounds k) where
  -- a point that is reached over one bound
  over : (b : ExactBound k) → Contains edges b → b.left ≡ 0 → (x : Exact k) → x ≡ k.opposite (sum_of k (b ∷ [])) → Reached k edges b.right x
  over b has start x v = record { row = b ∷ []; walk = (start, refl); held = All-cons (Contains edges) b [] has (All-nil (Contains edges)); value = v }

  -- and over two
  over_both : (b d : ExactBound k) → Contains edges b → Contains edges d → b.left ≡ 0 → d.left ≡ b.right
      → (x : Exact k) → x ≡ k.opposite (sum_of k (b ∷ (d ∷ []))) → Reached k edges d.right x
  over_both b d has_b has_d start next x v = record {
    row = b ∷ (d ∷ []);
    walk = (start, (next, refl));
    held = All-cons (Contains edges) b (d ∷ []) has_b (All-cons (Contains edges) d [] has_d (All-nil (Contains edges)));
    value = v;
  }

-- over its floor each point comes at zero
at_floor : (k : Kind) (n : ℕ) (bounds : List Row) → k.zero ≡ k.opposite (sum_of k (floor_of k 0 ∷ [])) → (p : ℕ) → p < n → Reached k (force k n bounds) p k.zero
at_floor k n bounds e p l = over k (force k n bounds) (floor_of k p) (floor_held k n (map (exact_of k) bounds) p l) refl k.zero e

-- times that are all zero
pub zeros : {k : Kind} → Lawful k → (n : ℕ) (bounds : List Row) → list_all (λ b. k.leq k.zero (k.sum k.zero b.delay)) (force k n bounds) ≡ true
    → k.zero ≡ k.opposite (sum_of k (floor_of k 0 ∷ [])) → Times k n bounds (λ p. k.zero)
zeros {k = k} laws n bounds m e = timed laws n bounds (λ p. k.zero) refl m (at_floor k n bounds e)

below_two : (P : ℕ → Type 0) → P 0 → P 1 → (p : ℕ) → p < 2 → P p
below_two P a b zero l = a
below_two P a b (suc zero) l = b
below_two P a b (suc (suc p)) l = absurd (omega arith)

below_three : (P : ℕ → Type 0) → P 0 → P 1 → P 2 → (p : ℕ) → p < 3 → P p
below_three P a b c zero l = a
below_three P a b c (suc zero) l = b
below_three P a b c (suc (suc zero)) l = c
below_three P a b c (suc (suc (suc p))) l = absurd (omega arith)

-- point 0 at zero, and point 1 at t
abbrev pub two_ticks : ℤ → ℕ → Exact ticks_kind
two_ticks t p = get_or (tick (pos 0) ∷ (tick t ∷ [])) p (tick (pos 0))

pub fives : Times ticks_kind 2 (at_most_five ∷ (bound 0 1 (negsuc 4) (pos 0) ∷ [])) (two_ticks (pos 5))
fives =
    let book = at_most_five ∷ (bound 0 1 (negsuc 4) (pos 0) ∷ []) in
    let edges = force ticks_kind 2 book in
    timed ticks_lawful 2 book (two_ticks (pos 5)) refl refl
    (below_two (λ p. Reached ticks_kind edges p (two_ticks (pos 5) p)) (at_floor ticks_kind 2 book refl 0 (omega arith))
    (over ticks_kind edges (exact_of ticks_kind (bound 0 1 (negsuc 4) (pos 0))) (1, omega arith, refl) refl (tick (pos 5)) refl))

pub sevens : Times ticks_kind 2 (bound 0 1 (negsuc 6) (pos 0) ∷ []) (two_ticks (pos 7))
sevens =
    let book = bound 0 1 (negsuc 6) (pos 0) ∷ [] in
    let edges = force ticks_kind 2 book in
    timed ticks_lawful 2 book (two_ticks (pos 7)) refl refl
    (below_two (λ p. Reached ticks_kind edges p (two_ticks (pos 7) p)) (at_floor ticks_kind 2 book refl 0 (omega arith))
    (over ticks_kind edges (exact_of ticks_kind (bound 0 1 (negsuc 6) (pos 0))) (0, omega arith, refl) refl (tick (pos 7)) refl))

-- point 0 at zero, point 1 a step after it, and point 2 some steps after it
abbrev pub three_ranks : ℤ → ℕ → Exact ranked_kind
three_ranks s p = get_or (rank (pos 0) (pos 0) ∷ (rank (pos 0) (pos 1) ∷ (rank (pos 0) s ∷ []))) p (rank (pos 0) (pos 0))

pub stepped : Times ranked_kind 3 (one_step ∷ []) (three_ranks (pos 0))
stepped =
    let book = one_step ∷ [] in
    let edges = force ranked_kind 3 book in
    timed ranked_lawful 3 book (three_ranks (pos 0)) refl refl
    (below_three (λ p. Reached ranked_kind edges p (three_ranks (pos 0) p)) (at_floor ranked_kind 3 book refl 0 (omega arith))
    (over ranked_kind edges (exact_of ranked_kind one_step) (0, omega arith, refl) refl (rank (pos 0) (pos 1)) refl)
    (at_floor ranked_kind 3 book refl 2 (omega arith)))

-- with bounds more that these times meet too
pub stepped_twice : (more : List Row) → MetBy ranked_kind (three_ranks (pos 2)) (force ranked_kind 3 (one_step ∷ (next_step ∷ more)))
    → Times ranked_kind 3 (one_step ∷ (next_step ∷ more)) (three_ranks (pos 2))
stepped_twice more m =
    let book = one_step ∷ (next_step ∷ more) in
    let edges = force ranked_kind 3 book in
    timed ranked_lawful 3 book (three_ranks (pos 2)) refl m
    (below_three (λ p. Reached ranked_kind edges p (three_ranks (pos 2) p)) (at_floor ranked_kind 3 book refl 0 (omega arith))
    (over ranked_kind edges (exact_of ranked_kind one_step) (0, omega arith, refl) refl (rank (pos 0) (pos 1)) refl)
    (over_both ranked_kind edges (exact_of ranked_kind one_step) (exact_of ranked_kind next_step) (0, omega arith, refl) (1, omega arith, refl) refl refl
    (rank (pos 0) (pos 2)) refl))
