-- The worked examples. Assumes nothing.
use Rattle.std.proofs.Common.{◌≡◌, ℕ, [], ◌∷◌, ◌++◌, true, get_or, pos, sym, refl, ap, arith}
use Rattle.std.proofs.Math.IntN.{pos-+ℤ-pos}
use Rattle.std.proofs.lemmas.Int.{ints}
use Rattle.std.specs.List.{All, Contains, list_all}
use Rattle.std.proofs.lemmas.List.Elements.{All-nil, All-cons, All-weaker, All-contains_itself, Contains-append_left}
use Rattle.std.proofs.lemmas.List.Sums.{AllPass-from_list_all}
use Rattle.delays.specs.Kind.{Kind, Exact}
use Rattle.delays.specs.Ticks.{tick, ticks_kind}
use Rattle.delays.specs.Ranked.{rank, ranked_kind}
use Rattle.delays.specs.TicksLaws.{ticks_lawful}
use Rattle.delays.specs.RankedLaws.{ranked_lawful}
use Rattle.network.specs.Bounds.{Bounds, floors, bounds_in_force}
use Rattle.network.specs.Assignments.{Meets, Solution, limit}
use Rattle.network.specs.Walks.{Apart}
use Rattle.network.specs.Earliest.{Reached}
use Rattle.network.specs.Worked.{five_five, five, five_six, before_itself, steps, before_next, Worked}
use Rattle.network.proofs.Counting.{apart_cons, apart_one}
use Rattle.network.proofs.Orders.{not_both}
use Rattle.network.proofs.Shortening.{earliest_reached}
use Rattle.network.proofs.Walking.{chain_refutes}

-- bounds that pass the test one by one are met
pub met : (k : Kind) (edges : Bounds k) (t : ℕ → Exact k) → list_all (λ b. k.leq (t b.left) (limit k t b)) edges ≡ true → All (Meets k t) edges
met k edges t = AllPass-from_list_all (λ b. k.leq (t b.left) (limit k t b)) edges

-- the bounds in force hold those of the book
pub held : (k : Kind) (n : ℕ) (book : Bounds k) → All (Contains (bounds_in_force k n book)) book
held k n book = All-weaker (Contains book) (Contains (bounds_in_force k n book)) (Contains-append_left book (floors k n)) book (All-contains_itself book)

five_meets : Solution ticks_kind (bounds_in_force ticks_kind 2 five_five) five
five_meets = record { zero_first = refl; meets = met ticks_kind (bounds_in_force ticks_kind 2 five_five) five refl }

-- the second of the two bounds
abbrev second : Bounds ticks_kind
second = get_or five_five 1 before_itself ∷ []

five_reached : Reached ticks_kind (bounds_in_force ticks_kind 2 five_five) 1 (tick (pos 5))
five_reached =
    let Held = Contains (bounds_in_force ticks_kind 2 five_five) in
    record { row = second; walk = (refl, refl); held = All-cons Held _ [] (1, omega arith, refl) (All-nil Held); value = refl }

abbrev stepped : ℕ → Exact ranked_kind
stepped p = get_or (rank (pos 0) (pos 0) ∷ (rank (pos 0) (pos 1) ∷ (rank (pos 0) (pos 2) ∷ []))) p (rank (pos 0) (pos 0))

stepped_meets : Solution ranked_kind (bounds_in_force ranked_kind 3 (steps ++ before_next ∷ [])) stepped
stepped_meets = record { zero_first = refl; meets = met ranked_kind (bounds_in_force ranked_kind 3 (steps ++ before_next ∷ [])) stepped refl }

steps_meet : Solution ranked_kind (bounds_in_force ranked_kind 3 steps) stepped
steps_meet = record { zero_first = refl; meets = met ranked_kind (bounds_in_force ranked_kind 3 steps) stepped refl }

stepped_reached : Reached ranked_kind (bounds_in_force ranked_kind 3 steps) 2 (rank (pos 0) (pos 2))
stepped_reached = record { row = steps; walk = (refl, (refl, refl)); held = held ranked_kind 3 steps; value = refl }

one_zero : Apart (1 ∷ (0 ∷ []))
one_zero = apart_cons 1 (0 ∷ []) (All-cons (λ y. ¬ (1 ≡ y)) 0 [] (λ e. omega arith) (All-nil (λ y. ¬ (1 ≡ y)))) (apart_one 0)

pub worked : Worked
worked = record {
  zero_sum = λ c. not_both ticks_kind (tick (pos 0)) (tick (pos 0)) refl c.below;
  earliest = earliest_reached ticks_lawful (bounds_in_force ticks_kind 2 five_five) five five_meets 1 five_reached;
  assignment = five_meets;
  chain = record {
    chain = record { start = 1; closed = (refl, (refl, refl)); apart = one_zero; below = refl };
    held = held ticks_kind 2 five_six;
  };
  rounds = record {
    inside = λ i h. omega arith;
    held = λ i h. (0, omega arith, refl);
    leaves = λ i h. refl;
    reaches = λ i h. refl;
    carried = λ i h. ap tick (sym (pos-+ℤ-pos i 1));
    rises = λ i j h l e. grind (arith, ints);
  };
  two_steps = earliest_reached ranked_lawful (bounds_in_force ranked_kind 3 steps) stepped steps_meet 2 stepped_reached;
  no_chain = λ row c. chain_refutes ranked_lawful (bounds_in_force ranked_kind 3 (steps ++ before_next ∷ [])) row c stepped stepped_meets;
  book_word = record { room = omega arith; value = refl };
  floor_word = record { room = omega arith; value = refl };
  posted_word = record { room = omega arith; value = refl };
}
