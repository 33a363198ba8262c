-- The chains of plans with known outcomes, and lists that begin with their words. Assumes nothing.
use Rattle.std.proofs.Common.{ℕ, zero, suc, ◌<◌, ◌≤◌, List, [], ◌∷◌, ◌++◌, get_or, drop, pos, negsuc, refl, inr, arith}
use Rattle.std.proofs.lemmas.List.{length-drop}
use Rattle.std.proofs.lemmas.List.Elements.{All-nil, All-cons}
use Rattle.std.specs.List.{Contains}
use Rattle.bounds.specs.declared.row.Row.{Row}
use Rattle.delays.specs.Kind.{Kind}
use Rattle.delays.specs.Ticks.{ticks_kind}
use Rattle.delays.specs.Ranked.{ranked_kind}
use Rattle.network.specs.Bounds.{ExactBound, floor_of}
use Rattle.network.specs.Chains.{ChainIn}
use Rattle.network.specs.declared.link.Link.TheVariants.{Book, Floor, Posted}
use Rattle.network.proofs.Counting.{apart_one}
use Rattle.plans.specs.Rows.{exact_of, force}
use Rattle.plans.specs.Conflicts.{Named}
use Rattle.plans.specs.Known.{bound, at_most_five, one_step, next_step, ChainCan}
use Rattle.plans.proofs.OutcomeTimes.{chain_of_two}

-- the word C0000000 names the posted bound
posted_named : {k : Kind} {book : List Row} (posted : Row) → Named k book (posted ∷ []) 0xC0000000 (exact_of k posted)
posted_named posted = record { link = Posted; word = record { room = omega arith; value = refl }; names = refl }

module _ (k : Kind) (n : ℕ) (book : List Row) (posted : Row) where
  written_one : 1 ≤ n → ChainIn k (force k n (book ++ posted ∷ [])) (exact_of k posted ∷ []) → ChainCan k n book posted (0xC0000000 ∷ [])
  written_one few chain before room = record {
    row = exact_of k posted ∷ [];
    chain = chain;
    count = refl;
    upto = few;
    words = named;
    first = inr refl;
    long = omega (arith, length-drop 1 before);
    others = refl;
  }
    where
      named : (i : ℕ) → i < 1 → Named k book (posted ∷ []) (get_or (0xC0000000 ∷ drop 1 before) i 0) (get_or (exact_of k posted ∷ []) i (floor_of k 0))
      named zero l = posted_named posted
      named (suc i) l = absurd (omega arith)

  written_two : (w : ℕ) (d : ExactBound k) → 2 ≤ n → ChainIn k (force k n (book ++ posted ∷ [])) (exact_of k posted ∷ (d ∷ []))
      → Named k book (posted ∷ []) w d → ChainCan k n book posted (0xC0000000 ∷ (w ∷ []))
  written_two w d few chain second before room = record {
    row = exact_of k posted ∷ (d ∷ []);
    chain = chain;
    count = refl;
    upto = few;
    words = named;
    first = inr refl;
    long = omega (arith, length-drop 2 before);
    others = refl;
  }
    where
      named : (i : ℕ) → i < 2
          → Named k book (posted ∷ []) (get_or (0xC0000000 ∷ (w ∷ drop 2 before)) i 0) (get_or (exact_of k posted ∷ (d ∷ [])) i (floor_of k 0))
      named zero l = posted_named posted
      named (suc zero) l = second
      named (suc (suc i)) l = absurd (omega arith)

pub itself_chain : ChainIn ticks_kind (force ticks_kind 1 (bound 0 0 (negsuc 0) (pos 0) ∷ [])) (exact_of ticks_kind (bound 0 0 (negsuc 0) (pos 0)) ∷ [])
itself_chain =
    let b = bound 0 0 (negsuc 0) (pos 0) in
    let Held = Contains (force ticks_kind 1 (b ∷ [])) in
    record {
      chain = record { start = 0; closed = (refl, refl); apart = apart_one 0; below = refl };
      held = All-cons Held (exact_of ticks_kind b) [] (0, omega arith, refl) (All-nil Held);
    }

pub alone_written : ChainCan ticks_kind 1 [] (bound 0 0 (negsuc 0) (pos 0)) (0xC0000000 ∷ [])
alone_written = written_one ticks_kind 1 [] (bound 0 0 (negsuc 0) (pos 0)) (omega arith) itself_chain

pub start_chain : ChainIn ticks_kind (force ticks_kind 2 (bound 1 0 (negsuc 4) (pos 0) ∷ []))
    (exact_of ticks_kind (bound 1 0 (negsuc 4) (pos 0)) ∷ (floor_of ticks_kind 1 ∷ []))
start_chain =
    let b = bound 1 0 (negsuc 4) (pos 0) in
    chain_of_two ticks_kind (force ticks_kind 2 (b ∷ [])) (exact_of ticks_kind b) (floor_of ticks_kind 1) (0, omega arith, refl) (2, omega arith, refl)
    refl refl (λ e. omega arith) refl

pub floor_written : ChainCan ticks_kind 2 [] (bound 1 0 (negsuc 4) (pos 0)) (0xC0000000 ∷ (0x80000001 ∷ []))
floor_written =
    written_two ticks_kind 2 [] (bound 1 0 (negsuc 4) (pos 0)) 0x80000001 (floor_of ticks_kind 1) (omega arith) start_chain
    (record { link = Floor 1; word = record { room = omega arith; value = refl }; names = refl })

pub six_chain : ChainIn ticks_kind (force ticks_kind 2 (at_most_five ∷ (bound 0 1 (negsuc 5) (pos 0) ∷ [])))
    (exact_of ticks_kind (bound 0 1 (negsuc 5) (pos 0)) ∷ (exact_of ticks_kind at_most_five ∷ []))
six_chain =
    let b = bound 0 1 (negsuc 5) (pos 0) in
    let edges = force ticks_kind 2 (at_most_five ∷ (b ∷ [])) in
    chain_of_two ticks_kind edges (exact_of ticks_kind b) (exact_of ticks_kind at_most_five) (1, omega arith, refl) (0, omega arith, refl)
    refl refl (λ e. omega arith) refl

pub first_written : ChainCan ticks_kind 2 (at_most_five ∷ []) (bound 0 1 (negsuc 5) (pos 0)) (0xC0000000 ∷ (0x40000000 ∷ []))
first_written =
    written_two ticks_kind 2 (at_most_five ∷ []) (bound 0 1 (negsuc 5) (pos 0)) 0x40000000 (exact_of ticks_kind at_most_five) (omega arith) six_chain
    (record { link = Book 0; word = record { room = omega arith; value = refl }; names = (omega arith, refl) })

pub back_chain : ChainIn ranked_kind (force ranked_kind 3 (one_step ∷ (next_step ∷ (bound 2 1 (pos 0) (pos 0) ∷ []))))
    (exact_of ranked_kind (bound 2 1 (pos 0) (pos 0)) ∷ (exact_of ranked_kind next_step ∷ []))
back_chain =
    let b = bound 2 1 (pos 0) (pos 0) in
    let edges = force ranked_kind 3 (one_step ∷ (next_step ∷ (b ∷ []))) in
    chain_of_two ranked_kind edges (exact_of ranked_kind b) (exact_of ranked_kind next_step) (2, omega arith, refl) (1, omega arith, refl)
    refl refl (λ e. omega arith) refl

pub second_written : ChainCan ranked_kind 3 (one_step ∷ (next_step ∷ [])) (bound 2 1 (pos 0) (pos 0)) (0xC0000000 ∷ (0x40000001 ∷ []))
second_written =
    written_two ranked_kind 3 (one_step ∷ (next_step ∷ [])) (bound 2 1 (pos 0) (pos 0)) 0x40000001 (exact_of ranked_kind next_step) (omega arith) back_chain
    (record { link = Book 1; word = record { room = omega arith; value = refl }; names = (omega arith, refl) })
