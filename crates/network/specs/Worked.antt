-- Worked examples: small lists of bounds, with numbers, of which the definitions hold. Assumes nothing.
use Rattle.std.specs.Prelude.{ℕ, [], ◌∷◌, ◌++◌, ℤ, pos, negsuc, slice_index_or}
use Rattle.delays.specs.Kind.{Exact}
use Rattle.delays.specs.Ticks.{tick, ticks_kind}
use Rattle.delays.specs.Ranked.{rank, ranked_kind}
use Rattle.network.specs.Bounds.{ExactBound, Bounds, bounds_in_force}
use Rattle.network.specs.Assignments.{Solution}
use Rattle.network.specs.Chains.{Chain, ChainIn}
use Rattle.network.specs.Earliest.{Earliest}
use Rattle.network.specs.Links.{HasWord}
use Rattle.network.specs.Rounds.{Traced}
use Rattle.network.specs.declared.link.Link.TheVariants.{Book, Floor, Posted}

abbrev pub in_ticks : ℕ → ℕ → ℤ → ExactBound ticks_kind
in_ticks left right t = record { left = left; right = right; delay = tick t }

abbrev pub in_ranked : ℕ → ℕ → ℤ → ℤ → ExactBound ranked_kind
in_ranked left right t s = record { left = left; right = right; delay = rank t s }

-- point 1 comes at most 5 after point 0, and at least 5
abbrev pub five_five : Bounds ticks_kind
five_five = in_ticks 1 0 (pos 5) ∷ (in_ticks 0 1 (negsuc 4) ∷ [])

-- point 0 at zero, and point 1 at 5
abbrev pub five : ℕ → Exact ticks_kind
five p = slice_index_or (tick (pos 0) ∷ (tick (pos 5) ∷ [])) p (tick (pos 0))

-- point 1 comes at most 5 after point 0, and at least 6
abbrev pub five_six : Bounds ticks_kind
five_six = in_ticks 1 0 (pos 5) ∷ (in_ticks 0 1 (negsuc 5) ∷ [])

-- point 0 comes before itself
abbrev pub before_itself : ExactBound ticks_kind
before_itself = in_ticks 0 0 (negsuc 0)

-- point 1 comes a step after point 0, and point 2 a step after point 1
abbrev pub steps : Bounds ranked_kind
steps = in_ranked 0 1 (pos 0) (negsuc 0) ∷ (in_ranked 1 2 (pos 0) (negsuc 0) ∷ [])

-- and point 2 comes before the millisecond after point 0, by as many steps as a bound can say
abbrev pub before_next : ExactBound ranked_kind
before_next = in_ranked 2 0 (pos 1) (negsuc 499_999_999)

pub record Worked : Type 0 where
  -- 5 and -5 come to zero, which is no chain: point 1 is 5 after point 0, and no earlier
  pub zero_sum : Chain ticks_kind five_five → ⊥
  pub earliest : Earliest ticks_kind (bounds_in_force ticks_kind 2 five_five) 1 (tick (pos 5))
  -- those times are an assignment that meets the bounds in force
  pub assignment : Solution ticks_kind (bounds_in_force ticks_kind 2 five_five) five
  -- 5 and -6 come to -1, which is a chain
  pub chain : ChainIn ticks_kind (bounds_in_force ticks_kind 2 five_six) five_six
  -- a round of relaxation over one point, whose label rises by 1
  pub rounds : Traced ticks_kind (before_itself ∷ []) 1 1 (λ i. 0) (λ i. tick (pos i)) (λ i. before_itself)
  -- two steps after point 0 are no millisecond, so that many steps before the next one are no chain
  pub two_steps : Earliest ranked_kind (bounds_in_force ranked_kind 3 steps) 2 (rank (pos 0) (pos 2))
  pub no_chain : (row : Bounds ranked_kind) → ChainIn ranked_kind (bounds_in_force ranked_kind 3 (steps ++ before_next ∷ [])) row → ⊥
  -- the words of the book's first bound, of the floor of point 1 and of the posted bound
  pub book_word : HasWord (Book 0) 0x40000000
  pub floor_word : HasWord (Floor 1) 0x80000001
  pub posted_word : HasWord Posted 0xC0000000
