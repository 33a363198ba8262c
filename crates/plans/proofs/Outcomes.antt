-- Plans with known outcomes. Assumes nothing.
use Rattle.std.proofs.Common.{◌≡◌, ℕ, true, List, [], ◌∷◌, ◌++◌, pos, negsuc, refl, inr, arith}
use Rattle.std.proofs.lemmas.Bool.{both_ways}
use Rattle.std.proofs.lemmas.List.Elements.{All-nil, All-cons}
use Rattle.bounds.specs.declared.row.Row.{Row}
use Rattle.delays.specs.Kind.{Kind, Exact}
use Rattle.delays.specs.Ticks.{tick, ticks_kind}
use Rattle.delays.specs.Ranked.{rank, ranked_kind}
use Rattle.delays.specs.TicksLaws.{ticks_lawful}
use Rattle.delays.specs.RankedLaws.{ranked_lawful}
use Rattle.network.specs.Bounds.{floor_of}
use Rattle.plans.specs.declared.fault.PlanFault.TheVariants.{Conflict}
use Rattle.plans.specs.Rows.{exact_of, Covers, Covered}
use Rattle.plans.specs.Answers.{settle, post, read, mark, back, settled, moved, time, slip, done, refused}
use Rattle.plans.specs.States.{State, settling, posting, marking}
use Rattle.plans.specs.Steps.{Step}
use Rattle.plans.specs.Runs.{Said, Run, rests, goes}
use Rattle.plans.specs.Known.{bound, fresh, at_most_five, one_step, next_step, stepping, KnownOutcomes}
use Rattle.plans.proofs.OutcomeCalls.{answered, conflicted, uncovered, settles, accepts, refuses, reads}
use Rattle.plans.proofs.OutcomeTimes.{zeros, two_ticks, fives, sevens, three_ranks, stepped, stepped_twice}
use Rattle.plans.proofs.OutcomeChains.{alone, over_floor, over_first, over_second}
use Rattle.plans.proofs.OutcomeWritten.{itself_chain, start_chain, six_chain, back_chain, alone_written, floor_written, first_written, second_written}
use Rattle.plans.proofs.OutcomeWords.{greatest_holds, greatest_checked, past_refused}

-- no bound of a short book covers b: none, or none with its left point
module _ (k : Kind) (b : Row) where
  abbrev Apart_from : Row → Type 0
  Apart_from c = Covers k c b → ⊥

  of_none : Covered k [] b → ⊥
  of_none = uncovered k [] b (All-nil Apart_from)

  of_one : (c : Row) → (c.left ≡ b.left → ⊥) → Covered k (c ∷ []) b → ⊥
  of_one c other = uncovered k (c ∷ []) b (All-cons Apart_from c [] (λ v. other v.left) (All-nil Apart_from))

  of_two : (c d : Row) → (c.left ≡ b.left → ⊥) → (d.left ≡ b.left → ⊥) → Covered k (c ∷ (d ∷ [])) b → ⊥
  of_two c d other more =
      uncovered k (c ∷ (d ∷ [])) b
      (All-cons Apart_from c (d ∷ []) (λ v. other v.left) (All-cons Apart_from d [] (λ v. more v.left) (All-nil Apart_from)))

-- a new plan of n points in ticks is settled, all times zero
abbrev zero_ticks : ℕ → Exact ticks_kind
zero_ticks p = tick (pos 0)

one_settled : Step ticks_kind (fresh 1) (settle 1) (settled 0) (settling (fresh 1))
one_settled = settles ticks_kind 1 zero_ticks (omega arith) (omega arith) (zeros ticks_lawful 1 [] refl refl)

two_settled : Step ticks_kind (fresh 2) (settle 2) (settled 0) (settling (fresh 2))
two_settled = settles ticks_kind 2 zero_ticks (omega arith) (omega arith) (zeros ticks_lawful 2 [] refl refl)

no_later_run : Run ticks_kind (fresh 1) ((settle 1, settled 0) ∷ ((post 1 (bound 0 0 (pos 0) (pos 0)), moved 0) ∷ []))
    (posting (bound 0 0 (pos 0) (pos 0)) (settling (fresh 1)))
no_later_run =
    let b = bound 0 0 (pos 0) (pos 0) in
    goes one_settled
    (goes
    (accepts ticks_kind (settling (fresh 1)) refl b zero_ticks zero_ticks
    (record { left = omega arith; right = omega arith; near = omega arith; t = refl; s = refl })
    (of_none ticks_kind b) (zeros ticks_lawful 1 [] refl refl) (zeros ticks_lawful 1 (b ∷ []) refl refl) (omega arith))
    rests)

before_itself_run : Run ticks_kind (fresh 1) ((settle 1, settled 0) ∷ ((post 1 (bound 0 0 (negsuc 0) (pos 0)), refused (Conflict 1)) ∷ [])) (settling (fresh 1))
before_itself_run =
    let b = bound 0 0 (negsuc 0) (pos 0) in
    goes one_settled
    (goes
    (refuses ticks_kind (settling (fresh 1)) refl b (exact_of ticks_kind b ∷ [])
    (record { left = omega arith; right = omega arith; near = omega arith; t = refl; s = refl })
    (of_none ticks_kind b)
    itself_chain)
    rests)

before_start_run : Run ticks_kind (fresh 2) ((settle 2, settled 0) ∷ ((post 2 (bound 1 0 (negsuc 4) (pos 0)), refused (Conflict 2)) ∷ [])) (settling (fresh 2))
before_start_run =
    let b = bound 1 0 (negsuc 4) (pos 0) in
    goes two_settled
    (goes
    (refuses ticks_kind (settling (fresh 2)) refl b (exact_of ticks_kind b ∷ (floor_of ticks_kind 1 ∷ []))
    (record { left = omega arith; right = omega arith; near = omega arith; t = refl; s = refl })
    (of_none ticks_kind b)
    start_chain)
    rests)

-- point 1 comes at most 5 after point 0: that moves nothing
five_posted : Step ticks_kind (settling (fresh 2)) (post 2 at_most_five) (moved 0) (posting at_most_five (settling (fresh 2)))
five_posted =
    accepts ticks_kind (settling (fresh 2)) refl at_most_five zero_ticks zero_ticks
    (record { left = omega arith; right = omega arith; near = omega arith; t = refl; s = refl })
    (of_none ticks_kind at_most_five) (zeros ticks_lawful 2 [] refl refl) (zeros ticks_lawful 2 (at_most_five ∷ []) refl refl) (omega arith)

just_five_run : Run ticks_kind (fresh 2)
    ((settle 2, settled 0) ∷ ((post 2 at_most_five, moved 0) ∷ ((post 2 (bound 0 1 (negsuc 4) (pos 0)), moved 1) ∷ ((read 1, time (tick (pos 5))) ∷ []))))
    (posting (bound 0 1 (negsuc 4) (pos 0)) (posting at_most_five (settling (fresh 2))))
just_five_run =
    let b = bound 0 1 (negsuc 4) (pos 0) in
    let s = posting at_most_five (settling (fresh 2)) in
    goes two_settled
    (goes five_posted
    (goes
    (accepts ticks_kind s refl b zero_ticks (two_ticks (pos 5))
    (record { left = omega arith; right = omega arith; near = omega arith; t = refl; s = refl })
    (of_one ticks_kind b at_most_five (λ e. omega arith)) (zeros ticks_lawful 2 (at_most_five ∷ []) refl refl) fives (omega arith))
    (goes (reads ticks_kind (posting b s) refl 1 (two_ticks (pos 5)) (omega arith) fives) rests)))

five_or_six_run : Run ticks_kind (fresh 2)
    ((settle 2, settled 0) ∷ ((post 2 at_most_five, moved 0) ∷ ((post 2 (bound 0 1 (negsuc 5) (pos 0)), refused (Conflict 2)) ∷ [])))
    (posting at_most_five (settling (fresh 2)))
five_or_six_run =
    let b = bound 0 1 (negsuc 5) (pos 0) in
    goes two_settled
    (goes five_posted
    (goes
    (refuses ticks_kind (posting at_most_five (settling (fresh 2))) refl b (exact_of ticks_kind b ∷ (exact_of ticks_kind at_most_five ∷ []))
    (record { left = omega arith; right = omega arith; near = omega arith; t = refl; s = refl })
    (of_one ticks_kind b at_most_five (λ e. omega arith))
    six_chain)
    rests))

-- a plan of three points, ranked, after two steps
abbrev after_step : State
after_step = posting one_step (settling (fresh 3))

abbrev after_steps : State
after_steps = posting next_step after_step

stepping_then : {rest : List (Said ranked_kind)} {t : State} → Run ranked_kind after_steps rest t → Run ranked_kind (fresh 3) (stepping ++ rest) t
stepping_then run =
    goes (settles ranked_kind 3 (λ p. rank (pos 0) (pos 0)) (omega arith) (omega arith) (zeros ranked_lawful 3 [] refl refl))
    (goes
    (accepts ranked_kind (settling (fresh 3)) refl one_step (λ p. rank (pos 0) (pos 0)) (three_ranks (pos 0))
    (record { left = omega arith; right = omega arith; near = omega arith; t = refl; s = refl })
    (of_none ranked_kind one_step) (zeros ranked_lawful 3 [] refl refl) stepped (omega arith))
    (goes
    (accepts ranked_kind after_step refl next_step (three_ranks (pos 0)) (three_ranks (pos 2))
    (record { left = omega arith; right = omega arith; near = omega arith; t = refl; s = refl })
    (of_one ranked_kind next_step one_step (λ e. omega arith)) stepped (stepped_twice [] refl) (omega arith))
    run))

two_steps_run : Run ranked_kind (fresh 3) (stepping ++ (read 2, time (rank (pos 0) (pos 2))) ∷ []) after_steps
two_steps_run = stepping_then (goes (reads ranked_kind after_steps refl 2 (three_ranks (pos 2)) (omega arith) (stepped_twice [] refl)) rests)

step_back_run : Run ranked_kind (fresh 3) (stepping ++ (post 3 (bound 2 1 (pos 0) (pos 0)), refused (Conflict 2)) ∷ []) after_steps
step_back_run =
    let b = bound 2 1 (pos 0) (pos 0) in
    stepping_then
    (goes
    (refuses ranked_kind after_steps refl b (exact_of ranked_kind b ∷ (exact_of ranked_kind next_step ∷ []))
    (record { left = omega arith; right = omega arith; near = omega arith; t = refl; s = refl })
    (of_two ranked_kind b one_step next_step (λ e. omega arith) (λ e. omega arith))
    back_chain)
    rests)

many_steps_run : Run ranked_kind (fresh 3) (stepping ++ (post 3 (bound 2 0 (pos 1) (negsuc 499_999_999)), moved 0) ∷ [])
    (posting (bound 2 0 (pos 1) (negsuc 499_999_999)) after_steps)
many_steps_run =
    let b = bound 2 0 (pos 1) (negsuc 499_999_999) in
    stepping_then
    (goes
    (accepts ranked_kind after_steps refl b (three_ranks (pos 2)) (three_ranks (pos 2))
    (record { left = omega arith; right = omega arith; near = omega arith; t = refl; s = refl })
    (of_two ranked_kind b one_step next_step (λ e. omega arith) (λ e. omega arith)) (stepped_twice [] refl) (stepped_twice (b ∷ []) refl) (omega arith))
    rests)

taken_back_run : Run ticks_kind (fresh 2)
    ((settle 2, settled 0) ∷ ((mark, slip 0 1) ∷ ((post 2 (bound 0 1 (negsuc 6) (pos 0)), moved 1)
    ∷ ((back 0 1, done) ∷ ((read 1, time (tick (pos 0))) ∷ [])))))
    (settling (fresh 2))
taken_back_run =
    let b = bound 0 1 (negsuc 6) (pos 0) in
    let s = settling (fresh 2) in
    let marked : Step ticks_kind s mark (slip 0 1) (marking s) = inr (λ off. both_ways true off refl, inr (λ full. omega arith, (refl, refl))) in
    let returned : Step ticks_kind (posting b (marking s)) (back 0 1) done s =
    inr (λ off. both_ways true off refl, inr (λ wrong. wrong (record { number_is = refl; depth_is = refl; is_open = omega arith }), (refl, refl))) in
    goes two_settled
    (goes marked
    (goes
    (accepts ticks_kind (marking s) refl b zero_ticks (two_ticks (pos 7))
    (record { left = omega arith; right = omega arith; near = omega arith; t = refl; s = refl })
    (of_none ticks_kind b) (zeros ticks_lawful 2 [] refl refl) sevens (omega arith))
    (goes returned (goes (reads ticks_kind s refl 1 zero_ticks (omega arith) (zeros ticks_lawful 2 [] refl refl)) rests))))

pub outcomes : KnownOutcomes
outcomes = record {
  no_later = answered ticks_lawful _ no_later_run;
  before_itself = conflicted ticks_lawful _ before_itself_run refl alone alone_written;
  before_start = conflicted ticks_lawful _ before_start_run refl over_floor floor_written;
  just_five = answered ticks_lawful _ just_five_run;
  five_or_six = conflicted ticks_lawful _ five_or_six_run refl over_first first_written;
  two_steps = answered ranked_lawful _ two_steps_run;
  step_back = conflicted ranked_lawful _ step_back_run refl over_second second_written;
  many_steps = answered ranked_lawful _ many_steps_run;
  taken_back = answered ticks_lawful _ taken_back_run;
  twenty = refl;
  greatest_t = (greatest_holds, greatest_checked);
  past_greatest_t = (past_refused, refl, refl);
}
