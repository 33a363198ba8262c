-- Conflicts are told exactly where no assignment meets the bounds, and reading gives the least assignment. Assumes nothing.
use Rattle.std.proofs.Common.{◌≡◌, ℕ, ◌+◌, ◌<◌, ◌≤◌, true, false, ◌⊎◌, List, [], ◌∷◌, ◌++◌, map, length, ap, ◌∙◌, subst, inl, inr, ⊎_elim, arith}
use mathlib.Core.Path.{subst⁻¹}
use Rattle.std.specs.List.{All, Contains}
use Rattle.std.proofs.lemmas.List.{length-map, get_or-map, map-append}
use Rattle.std.proofs.lemmas.List.Elements.{All-contains, All-contains_itself, All-weaker, All-head, All-tail, Contains-append_left}
use Rattle.std.proofs.lemmas.Bool.{both_ways}
use Rattle.bounds.specs.declared.row.Row.{Row}
use Rattle.delays.specs.Kind.{Kind, Exact, Lawful}
use Rattle.network.specs.Bounds.{ExactBound, floors}
use Rattle.network.specs.Assignments.{Meets}
use Rattle.network.specs.Earliest.{Earliest}
use Rattle.network.proofs.Orders.{sum_orders}
use Rattle.network.proofs.Turning.{posted_either}
use Rattle.network.proofs.Theorems.{chain_theory, earliest_theory}
use Rattle.plans.specs.declared.fault.PlanFault.{PlanFault}
use Rattle.plans.specs.declared.fault.PlanFault.TheVariants.{Conflict}
use Rattle.plans.specs.Rows.{exact_of, force, Fit, Covers, Covered, Solvable}
use Rattle.plans.specs.Answers.{settle, post, read, mark, keep, back, Answer, covered, time, refused}
use Rattle.plans.specs.States.{State, rows}
use Rattle.plans.specs.Steps.{Ending, Unless, Check, EachBound, Conflicts, PostAdded, Step}
use Rattle.plans.specs.Runs.{Opened, IsConflict, Judged, ConflictsTrue, ReadsLeast}
use Rattle.plans.proofs.Timing.{settled_timed}
use Rattle.plans.proofs.Misfitting.{inside}
use Rattle.relaxation.proofs.Rows.{times_least}

-- a row of the book is in force
pub row_in_force : (k : Kind) (n : ℕ) (rows : List Row) (r : Row) → Contains rows r → Contains (force k n rows) (exact_of k r)
row_in_force k n rows r h =
    let low : h.0 < length rows = h.1 in
    Contains-append_left (map (exact_of k) rows) (floors k n) (exact_of k r)
    (h.0, omega (arith, length-map rows (exact_of k)), get_or-map (exact_of k) rows h.0 r (exact_of k r) low ∙ ap (exact_of k) h.2)

module _ {k : Kind} (laws : Lawful k) where
  -- what meets a bound meets one that it covers
  meets_covered : (x : ℕ → Exact k) (c b : Row) → Covers k c b → Meets k x (exact_of k c) → Meets k x (exact_of k b)
  meets_covered x c b v h = laws.transitive _ _ _ (rw (v.left, v.right) at h) (sum_orders laws (x b.right) _ _ v.delay)

  -- so bounds that can be met are met with one that they cover
  pub covers_solvable : (n : ℕ) (rows : List Row) (b : Row) → Covered k rows b → Solvable k n rows → Solvable k n (rows ++ b ∷ [])
  covers_solvable n rows b v x = (x.0, record { zero_first = x.1.zero_first; meets = each })
    where
      old : (c : ExactBound k) → Contains (force k n rows) c → Meets k x.0 c
      old c = All-contains (Meets k x.0) (force k n rows) c x.1.meets

      new : Meets k x.0 (exact_of k b)
      new = meets_covered x.0 v.0 b v.2 (old (exact_of k v.0) (row_in_force k n rows v.0 v.1))

      either : (c : ExactBound k) → Contains (force k n (rows ++ b ∷ [])) c → Meets k x.0 c
      either c h = ⊎_elim (old c) (λ e. subst (Meets k x.0) e new)
          (posted_either laws n (map (exact_of k) rows) (exact_of k b) c (rw (map-append (exact_of k) rows (b ∷ [])) at h))

      each : All (Meets k x.0) (force k n (rows ++ b ∷ []))
      each = All-weaker (Contains (force k n (rows ++ b ∷ []))) (Meets k x.0) either (force k n (rows ++ b ∷ [])) (All-contains_itself _)

  -- whatever the ending answers is judged rightly
  abbrev Gives : ℕ → List Row → Ending k → Type 0
  Gives n bounds P = (a : Answer k) (t : State) → P a t → Judged k n bounds a

  -- a check that does not refuse
  pass : {n : ℕ} (bounds : List Row) {s : State} {bad : Type 0} {x : PlanFault} {P : Ending k} → (bad → ⊥) → Gives n bounds P → Gives n bounds (Check s bad x P)
  pass bounds h f a t (inl p) = absurd (h p.0)
  pass bounds h f a t (inr p) = f a t p.1

  -- bounds that all fit pass their checks
  pass_bounds : {n : ℕ} (all : List Row) (s : State) (i : ℕ) (bounds : List Row) {P : Ending k} → All (Fit k s.points) bounds → Gives n all P
      → Gives n all (EachBound k s i bounds P)
  pass_bounds all s i [] h f = f
  pass_bounds all s i (b ∷ bounds) h f =
      let first = All-head (Fit k s.points) b bounds h in
      pass all (inside s.points b first.left first.right) (pass all first.read (pass_bounds all s (i + 1) bounds (All-tail (Fit k s.points) b bounds h) f))

  -- bounds that are met give no conflict
  met : (n : ℕ) (bounds : List Row) {a : Answer k} → Solvable k n bounds → (IsConflict a → ⊥) → Judged k n bounds a
  met n bounds x h = record { refuted = λ c _. h c; reported = λ none. absurd (none x); chain = λ c e. absurd (h (c, e)) }

  -- a chain refutes every assignment, and where there are earliest times, the ending tells no conflict
  judged : {s : State} (bounds : List Row) (next : (ℕ → Exact k) → Ending k)
      → ((x : ℕ → Exact k) (a : Answer k) (t : State) → next x a t → IsConflict a → ⊥) → Gives s.points bounds (Conflicts k s bounds next)
  judged {s} bounds next h a t (inl p) = record {
    refuted = λ _ x. (chain_theory laws).refutes (force k s.points bounds) p.0 p.1 x.0 x.1;
    reported = λ _. (length p.0, p.2.0);
    chain = λ c e. let f : a ≡ refused (Conflict (length p.0)) = p.2.0 in (p.0, p.1, cc);
  }
  judged {s} bounds next h a t (inr p) = met s.points bounds (p.0, p.1.solution) (h p.0 a t p.2)

  settle_judged : (t : State) (len : ℕ) → t.settled ≡ false → 0 < t.points → t.points ≤ 128 → t.points ≤ len → All (Fit k t.points) (rows t)
      → Gives t.points (rows t) (Step k t (settle len))
  settle_judged t len off low high long fit =
      pass (rows t) (both_ways t.settled off) (pass (rows t) count (pass (rows t) (λ l. omega arith)
      (pass_bounds (rows t) t 0 (rows t) fit (judged (rows t) _ (λ x a u p c. let e = p.0 in let f = c.1 in cc)))))
    where
      count : (t.points ≡ 0) ⊎ (128 < t.points) → ⊥
      count (inl e) = omega arith
      count (inr l) = omega arith

  -- a post that is covered
  cover_judged : (t : State) (b : Row) → Solvable k t.points (rows t) → {P : Ending k} → Gives t.points (rows t ++ b ∷ []) P
      → Gives t.points (rows t ++ b ∷ []) (Unless t (Covered k (rows t) b) covered P)
  cover_judged t b now f a u (inl p) =
      met t.points (rows t ++ b ∷ []) (covers_solvable t.points (rows t) b p.0 now) (λ c. let e = p.1.0 in let f = c.1 in cc)
  cover_judged t b now f a u (inr p) = f a u p.1

  -- past the check for a conflict, a full book and a count of moved points are none
  no_conflict : (t : State) (b : Row) (x : ℕ → Exact k) (a : Answer k) (u : State) → PostAdded k t b x a u → IsConflict a → ⊥
  no_conflict t b x a u (inl p) c = let e = p.1.0 in let f = c.1 in cc
  no_conflict t b x a u (inr p) c = let e = p.1.2.0 in let f = c.1 in cc

  -- a post, where some assignment meets the bounds in force
  post_judged : (t : State) (len : ℕ) (b : Row) → t.settled ≡ true → Fit k t.points b → t.points ≤ len → Solvable k t.points (rows t)
      → Gives t.points (rows t ++ b ∷ []) (Step k t (post len b))
  post_judged t len b on fit long now = let all = rows t ++ b ∷ [] in
      pass all (λ off. both_ways t.settled off on) (pass all (λ l. inside t.points b fit.left fit.right (inl l))
      (pass all (λ l. inside t.points b fit.left fit.right (inr l))
      (pass all fit.read (pass all (λ l. omega arith) (cover_judged t b now (judged all _ (no_conflict t b)))))))

  -- a conflict exactly when no assignment meets the bounds in question
  pub conflicts_true : (s : State) → Opened s → ConflictsTrue k s
  conflicts_true s o t u xs (settle len) a bounds r h p =
      subst⁻¹ (λ (l : List Row). Judged k t.points l a) h.5 (settle_judged t len h.0 h.1 h.2 h.3 h.4 a u p)
  conflicts_true s o t u xs (post len b) a bounds r h p = let now = settled_timed o r h.0 in
      subst⁻¹ (λ (l : List Row). Judged k t.points l a) h.3 (post_judged t len b h.0 h.1 h.2 (now.0, now.1.solution) a u p)
  conflicts_true s o t u xs (read i) a bounds r h p = absurd h
  conflicts_true s o t u xs mark a bounds r h p = absurd h
  conflicts_true s o t u xs (keep number d) a bounds r h p = absurd h
  conflicts_true s o t u xs (back number d) a bounds r h p = absurd h

  -- the earliest times are the times that reading gives
  pub reads_least : (s : State) → Opened s → ReadsLeast k s
  reads_least s o t xs r f = let h = settled_timed o r f in let e = h.1.earliest in record {
    times = h.0;
    least = times_least laws t.points (rows t) h.0 h.1;
    reads = λ p a u l q. read_is p a u l q (h.0 p) (e p l);
  }
    where
      read_is : (p : ℕ) (a : Answer k) (u : State) → p < t.points → Step k t (read p) a u → (x : Exact k) → Earliest k (force k t.points (rows t)) p x
          → a ≡ time x
      read_is p a u l (inl q) x e = absurd (both_ways t.settled q.0 f)
      read_is p a u l (inr (on, inl q)) x e = let z : t.points ≤ p = q.0 in absurd (omega arith)
      read_is p a u l (inr (on, inr q)) x e = q.1.2.0 ∙ ap time ((earliest_theory laws).one (force k t.points (rows t)) p q.1.0 x q.1.1 e)
