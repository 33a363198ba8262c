-- From point to point: where the spreading from the next point begins, and what times it leaves. Assumes nothing.
use Rattle.std.proofs.Common.{◌≡◌, ℕ, ◌+◌, ◌<◌, ◌≤◌, ◌≢◌, false, List, [], ◌∷◌, ◌++◌, length, None, set, below_more, refl, sym, ap, ◌∙◌}
use Rattle.std.proofs.Common.{subst, inl, ⊎_elim, arith}
use Rattle.std.specs.List.{All, Contains}
use Rattle.std.proofs.lemmas.List.Elements.{All-nil, All-cons, All-contains, All-contains_itself, All-weaker, All-filter}
use Rattle.bounds.specs.declared.row.Row.{Row}
use Rattle.bounds.specs.Range.{Sound}
use Rattle.delays.specs.Kind.{Kind, Exact, Lawful}
use Rattle.network.specs.Bounds.{ExactBound, Bounds, Inside}
use Rattle.network.specs.Assignments.{Le, Meets}
use Rattle.network.specs.Earliest.{Earliest}
use Rattle.network.specs.Edges.{time_of_point}
use Rattle.relaxation.specs.declared.star.Star.{Star}
use Rattle.relaxation.specs.Line.{Joined}
use Rattle.relaxation.specs.Rows.{force, Fit, Times}
use Rattle.relaxation.specs.Stars.{below, in_question, over_of, Leads}
use Rattle.relaxation.specs.Workings.{MayBeTaken, Ready, Ended}
use Rattle.relaxation.proofs.Ends.{ends}
use Rattle.relaxation.proofs.Rows.{edges_inside}
use Rattle.relaxation.proofs.Posing.{zero_times, star_posed, star_quiet, star_times}
use Rattle.relaxation.proofs.Rising.{begin}
use Rattle.relaxation.proofs.Writing.{time_put}

-- the times of the points below i are written: they are zero
pub zero_more : {X : Type 0} (k : Kind) (means : X → Exact k) (times : List X) (i : ℕ) (x : X) → i < length times → means x ≡ k.zero
    → ((q : ℕ) → q < i → time_of_point k means times q ≡ k.zero) → (q : ℕ) → q < i + 1 → time_of_point k means (set times i x) q ≡ k.zero
zero_more k means times i x low e before =
    let put = time_put k means times i low x k.zero e in
    below_more _ _ (λ q l. let other : q ≢ i = omega arith in put.elsewhere q other ∙ before q l) put.here

-- a point that comes to an empty line waits alone
pub alone : (before : List ℕ) (p : ℕ) (after : List ℕ) → before ≡ [] → Joined before p after → after ≡ p ∷ []
alone before p after none joined =
    ⊎_elim (λ h. absurd (omega (arith, ap length none, h.0.1))) (λ h. h.1 ∙ ap (λ (l : List ℕ). l ++ p ∷ []) none) joined

-- the star of a point whose bounds come in
abbrev pub star_at : ℕ → Star
star_at root = record { root = root; limit = root + 1; posted = None }

module _ {k : Kind} (laws : Lawful k) {n : ℕ} (some : 0 < n) (rows : List Row) (fit : All (Fit k n) rows) where
  -- times that are equal at each of the n points are earliest together
  pub times_same : (t u : ℕ → Exact k) → ((p : ℕ) → p < n → u p ≡ t p) → Times k n rows t → Times k n rows u
  times_same t u same times = record {
    solution = record {
      zero_first = same 0 some ∙ times.solution.zero_first;
      meets = All-weaker (Contains edges) (Meets k u) met edges (All-contains_itself edges);
    };
    earliest = λ p small. subst (Earliest k edges p) (sym (same p small)) (times.earliest p small);
  }
    where
      edges : Bounds k
      edges = force k n rows

      met : (b : ExactBound k) → Contains edges b → Meets k u b
      met b has =
          let inside = All-contains (Inside k n) edges b (edges_inside laws n rows some fit) has in
          let old = All-contains (Meets k t) edges b times.solution.meets has in
          rw (same b.left inside.left) (subst (λ x. Le k (t b.left) (k.sum x b.delay)) (sym (same b.right inside.right)) old)

module _ {k : Kind} (laws : Lawful k) {n : ℕ} (some : 0 < n) (rows : List Row) where
  -- before the first point no row has come in, and all points are at zero
  pub zeroed_times : All (Fit k n) rows → (t : ℕ → Exact k) → ((p : ℕ) → p < n → t p ≡ k.zero) → Times k n (below 0 rows) t
  zeroed_times fit t zero = times_same laws some (below 0 rows) (All-filter _ (Fit k n) rows fit) (λ p. k.zero) t zero (zero_times laws some rows)

  module _ (few : n ≤ 128) (fit : All (Fit k n) rows) (sound : All Sound rows) where
    -- the next point waits alone, and its bounds come in
    pub star_ready : (root : ℕ) → root < n → (time : ℕ → Exact k) → Times k n (below root rows) time → (over line : List ℕ)
        → line ≡ root ∷ [] → Ready k n rows (star_at root) time over line
    star_ready root inside time times over line only = record {
      working = record {
        met = in_question k n root rows [];
        start = time;
        risen = λ q. false;
        limit = omega arith;
        leaves = All-nil (λ b. b.left ≡ root);
        posed = star_posed laws some few rows fit sound root inside time times;
        spread = begin laws (over_of k rows [] over);
        begun = rw only
            (All-cons (MayBeTaken k n rows (star_at root) (λ q. false)) root [] (record { low = omega arith; begun = inl (refl, refl) })
            (All-nil (MayBeTaken k n rows (star_at root) (λ q. false))));
      };
      quiet = rw only (star_quiet laws some few rows fit sound root inside time times (Leads k []));
    }

  -- where its spreading ends, the times are the earliest ones with its bounds
  pub star_ended : (root : ℕ) (time : ℕ → Exact k) (over : List ℕ) → Ended k n rows (star_at root) time over
      → Times k n (below (root + 1) rows) time
  star_ended root time over e = star_times rows time (root + 1) (ends laws e.working.posed e.working.spread e.met)
