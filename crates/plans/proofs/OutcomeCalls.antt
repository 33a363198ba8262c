-- Calls on small plans: times that are found by hand, and the steps that they allow. Assumes nothing.
use Rattle.std.proofs.Common.{◌≡◌, ℕ, ◌<◌, ◌≤◌, true, false, ◌⊎◌, List, [], ◌∷◌, ◌++◌, length, refl, inl, inr, arith}
use Rattle.std.specs.List.{All, list_all}
use Rattle.std.proofs.lemmas.Bool.{both_ways}
use Rattle.std.proofs.lemmas.List.Elements.{All-contains}
use Rattle.bounds.specs.declared.row.Row.{Row}
use Rattle.delays.specs.Kind.{Kind, Exact, Lawful, Unread}
use Rattle.network.specs.Bounds.{Bounds}
use Rattle.network.specs.Assignments.{Solution, limit}
use Rattle.network.specs.Chains.{ChainIn}
use Rattle.network.specs.Earliest.{Reached}
use Rattle.network.proofs.Examples.{met}
use Rattle.network.proofs.Theorems.{earliest_theory}
use Rattle.plans.specs.declared.fault.PlanFault.TheVariants.{Conflict}
use Rattle.plans.specs.Rows.{force, Covers, Covered, Times, moved_count}
use Rattle.plans.specs.Answers.{settle, post, read, settled, moved, time, refused}
use Rattle.plans.specs.States.{State, rows, settling, posting}
use Rattle.plans.specs.Steps.{Step}
use Rattle.plans.specs.Runs.{Said, Run}
use Rattle.plans.specs.Known.{fresh, Answered, ChainIs, ChainCan, Conflicted}
use Rattle.plans.proofs.Agreeing.{runs_agree}

-- both points of the row are below n, and the kind's delay with its parts is in reach
pub record Postable (k : Kind) (n : ℕ) (b : Row) : Type 0 where
  pub left : b.left < n
  pub right : b.right < n
  pub near : k.size (k.value b.t b.s) ≤ k.reach
  pub t : k.t (k.value b.t b.s) ≡ b.t
  pub s : k.s (k.value b.t b.s) ≡ b.s

-- the times meet each bound, as computed
abbrev pub MetBy : (k : Kind) → (ℕ → Exact k) → Bounds k → Type 0
MetBy k x edges = list_all (λ b. k.leq (x b.left) (limit k x b)) edges ≡ true

module _ {k : Kind} (laws : Lawful k) where
  -- times that meet each bound and come over walks are the earliest
  pub timed : (n : ℕ) (bounds : List Row) (x : ℕ → Exact k) → x 0 ≡ k.zero → MetBy k x (force k n bounds)
      → ((p : ℕ) → p < n → Reached k (force k n bounds) p (x p)) → Times k n bounds x
  timed n bounds x z m reached =
      let meets : Solution k (force k n bounds) x = record { zero_first = z; meets = met k (force k n bounds) x m } in
      record { solution = meets; earliest = λ p l. (earliest_theory laws).reached (force k n bounds) x meets p (reached p l) }

  -- calls that are answered so are answered no otherwise
  pub answered : {n : ℕ} {calls : List (Said k)} (t : State) → Run k (fresh n) calls t → Answered k n calls
  answered {n} {calls} t run = record { after = t; run = run; only = λ u others r e. runs_agree laws (fresh n) u t others calls r run e }

  -- the last of them a conflict, whose chain is known
  pub conflicted : {n : ℕ} {calls : List (Said k)} {book : List Row} {posted : Row} {words : List ℕ} (t : State)
      → Run k (fresh n) (calls ++ (post n posted, refused (Conflict (length words))) ∷ []) t
      → rows t ≡ book → ChainIs k n book posted words → ChainCan k n book posted words
      → Conflicted k n calls book posted words
  unfolding answered
  conflicted t run stands chain written = record { answers = answered t run; stands = stands; chain = chain; written = written }

module _ (k : Kind) where
  -- no bound covers b
  pub uncovered : (bounds : List Row) (b : Row) → All (λ c. Covers k c b → ⊥) bounds → Covered k bounds b → ⊥
  uncovered bounds b none v = All-contains (λ c. Covers k c b → ⊥) bounds v.0 none v.1 v.2

  readable : {n : ℕ} {b : Row} → Postable k n b → Unread k b.t b.s → ⊥
  readable {b = b} p u = u (k.value b.t b.s) p.near (record { first = p.t; second = p.s })

  -- a new plan is settled
  pub settles : (n : ℕ) (x : ℕ → Exact k) → 0 < n → n ≤ 128 → Times k n [] x
      → Step k (fresh n) (settle n) (settled (moved_count k n (λ p. k.zero) x)) (settling (fresh n))
  settles n x l m times = inr (both_ways false refl, inr (count, inr (λ h. omega arith, inr (x, times, (refl, refl)))))
    where
      count : (n ≡ 0) ⊎ (128 < n) → ⊥
      count (inl e) = omega arith
      count (inr h) = omega arith

  module _ (s : State) (on : s.settled ≡ true) where
    -- a post that is accepted
    pub accepts : (b : Row) (old x : ℕ → Exact k) → Postable k s.points b → (Covered k (rows s) b → ⊥) → Times k s.points (rows s) old
        → Times k s.points (rows s ++ b ∷ []) x → 0 < s.book.free → Step k s (post s.points b) (moved (moved_count k s.points old x)) (posting b s)
    accepts b old x p none before after room =
        inr (
          λ off. both_ways s.settled off on,
          inr (
            λ h. omega (arith, p.left),
            inr (
              λ h. omega (arith, p.right),
              inr (
                readable p,
                inr (
                  λ h. omega arith,
                  inr (none, inr (x, after, inr (λ e. omega arith, (old, before, (refl, refl))))),
                ),
              ),
            ),
          ),
        )

    -- a post that is refused for a chain
    pub refuses : (b : Row) (row : Bounds k) → Postable k s.points b → (Covered k (rows s) b → ⊥) → ChainIn k (force k s.points (rows s ++ b ∷ [])) row
        → Step k s (post s.points b) (refused (Conflict (length row))) s
    refuses b row p none c =
        inr (
          λ off. both_ways s.settled off on,
          inr (
            λ h. omega (arith, p.left),
            inr (
              λ h. omega (arith, p.right),
              inr (
                readable p,
                inr (
                  λ h. omega arith,
                  inr (none, inl (row, c, (refl, refl))),
                ),
              ),
            ),
          ),
        )

    pub reads : (p : ℕ) (x : ℕ → Exact k) → p < s.points → Times k s.points (rows s) x → Step k s (read p) (time (x p)) s
    reads p x l times = inr (λ off. both_ways s.settled off on, inr (λ h. omega arith, (x p, times.earliest p l, (refl, refl))))
