-- Reading gives the earliest time. Assumes nothing.
use Rattle.std.proofs.Common.{◌≡◌, ℕ, ◌<◌, List, map, ◌∙◌, subst, sym, refl, inr, true, arith}
use Rattle.std.specs.List.{All, Contains}
use Rattle.std.proofs.lemmas.Bool.{both_ways}
use Rattle.std.proofs.lemmas.List.Elements.{All-weaker, All-contains, All-contains_itself}
use Rattle.bounds.specs.declared.row.Row.{Row}
use Rattle.delays.specs.Kind.{Kind, Exact, Lawful}
use Rattle.network.specs.Assignments.{Le, Meets}
use Rattle.network.specs.Bounds.{ExactBound, Inside}
use Rattle.network.specs.Earliest.{Earliest}
use Rattle.network.proofs.InForce.{force_inside}
use Rattle.relaxation.proofs.Rows.{fit_inside, least_times}
use Rattle.plans.specs.Rows.{exact_of, force, Fit, Least}
use Rattle.plans.specs.Answers.{read, time}
use Rattle.plans.specs.States.{State, rows}
use Rattle.plans.specs.Steps.{Step}

-- times that are the same at each of the n points are the least as well
pub least_same : {k : Kind} (n : ℕ) (rows : List Row) → 0 < n → All (Fit k n) rows → {x y : ℕ → Exact k} → ((p : ℕ) → p < n → y p ≡ x p)
    → Least k n rows x → Least k n rows y
least_same {k} n rows some fit {x} {y} same l = record {
  solution = record {
    zero_first = same 0 some ∙ l.solution.zero_first;
    meets = All-weaker (Contains (force k n rows)) (Meets k y) met (force k n rows) (All-contains_itself (force k n rows));
  };
  least = λ z s p h. rw (same p h) (l.least z s p h);
}
  where
    met : (b : ExactBound k) → Contains (force k n rows) b → Meets k y b
    met b has =
        let at = All-contains (Inside k n) (force k n rows) b (force_inside k n (map (exact_of k) rows) some (fit_inside k n rows fit)) has in
        let here : Meets k x b = All-contains (Meets k x) (force k n rows) b l.solution.meets has in
        rw (same b.left at.left) (subst (λ z. Le k (x b.left) (k.sum z b.delay)) (sym (same b.right at.right)) here)

-- reading a point of a settled plan gives its earliest time
pub read_step : {k : Kind} → Lawful k → {s : State} {x : ℕ → Exact k} {p : ℕ} → s.settled ≡ true → 0 < s.points → All (Fit k s.points) (rows s)
    → Least k s.points (rows s) x
    → p < s.points → (y : Exact k) → y ≡ x p → Step k s (read p) (time y) s
read_step {k = k} laws {s = s} {x = x} {p = p} on some fit l h y e =
    inr (
      λ off. both_ways s.settled off on,
      inr (
        λ past. omega (arith, past, h),
        (
          y,
          subst (Earliest k (force k s.points (rows s)) p) (sym e)
              ((least_times laws s.points (rows s) x some fit l).earliest p h),
          (refl, refl),
        ),
      ),
    )
