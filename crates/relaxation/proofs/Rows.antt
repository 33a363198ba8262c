-- The bounds that rows say: they have points below the number of points and small delays, and their least times are the earliest. Assumes nothing.
use Rattle.std.proofs.Common.{◌≡◌, ℕ, ◌<◌, ◌≤◌, List, map, get_or, ℤ, sym, ap, ◌∙◌, subst, ⊎_elim, arith}
use Rattle.std.specs.Prelude.{unsigned_abs}
use Rattle.std.specs.List.{All}
use Rattle.std.proofs.lemmas.Bool.{cases_lt}
use Rattle.std.proofs.lemmas.Int.{ints}
use Rattle.std.proofs.lemmas.List.Elements.{All-append, All-map, All-get_or, All-weaker}
use Rattle.bounds.specs.declared.row.Row.{Row}
use Rattle.bounds.specs.Range.{Part, Sound}
use Rattle.delays.specs.Kind.{Kind, Exact, Within, Parts, Unread, Lawful}
use Rattle.delays.specs.Sizes.{small_part}
use Rattle.network.specs.Bounds.{ExactBound, floor_of, floors, Inside}
use Rattle.network.specs.Earliest.{Earliest}
use Rattle.network.proofs.Counting.{all_counting}
use Rattle.network.proofs.InForce.{force_inside}
use Rattle.network.proofs.Theorems.{chain_theory, earliest_theory, consistency}
use Rattle.relaxation.specs.Rows.{exact_of, force, Fit, Times, Least}

-- the points of bounds that fit are below n
pub fit_inside : (k : Kind) (n : ℕ) (rows : List Row) → All (Fit k n) rows → All (Inside k n) (map (exact_of k) rows)
fit_inside k n rows fit =
    All-map (Inside k n) (exact_of k) rows
    (All-weaker (Fit k n) (λ r. Inside k n (exact_of k r)) (λ r f. record { left = f.left; right = f.right }) rows fit)

part_small : (z : ℤ) → Part z → unsigned_abs z ≤ small_part
part_small z h = omega (arith, ints, h.0, h.1)

-- the parts of a delay tell it
pub value_of : {k : Kind} → Lawful k → (x : Exact k) (t s : ℤ) → Within k x → Parts k x t s → x ≡ k.value t s
value_of {k} laws x t s w p = sym (laws.parts_tell x w) ∙ (ap (λ a. k.value a (k.s x)) p.first ∙ ap (k.value t) p.second)

-- the bound has a small delay
abbrev pub Small : (k : Kind) → ExactBound k → Type 0
Small k b = k.size b.delay ≤ k.greatest

module _ {k : Kind} (laws : Lawful k) where
  not_small : (r : Row) → Sound r → k.greatest < k.size (k.value r.t r.s) → (x : Exact k) → Within k x → Parts k x r.t r.s → ⊥
  not_small r sound over x within parts =
      let t : unsigned_abs (k.t x) ≤ small_part = rw parts.first (part_small r.t sound.2) in
      let s : unsigned_abs (k.s x) ≤ small_part = rw parts.second (part_small r.s sound.3) in
      omega (arith, over, laws.small_parts x within t s, ap k.size (value_of laws x r.t r.s within parts))

  -- a row of a bound, of which the kind has the delay, has a small one
  pub row_small : (r : Row) → Sound r → (Unread k r.t r.s → ⊥) → Small k (exact_of k r)
  row_small r sound read = ⊎_elim (λ over. absurd (read (not_small r sound over))) (λ h. h) (cases_lt k.greatest (k.size (k.value r.t r.s)))

  module _ (n : ℕ) (rows : List Row) (some : 0 < n) (fit : All (Fit k n) rows) where
    pub edges_inside : All (Inside k n) (force k n rows)
    edges_inside = force_inside k n (map (exact_of k) rows) some (fit_inside k n rows fit)

    pub edges_small : All Sound rows → All (Small k) (force k n rows)
    edges_small sound =
        All-append (Small k) (map (exact_of k) rows) (floors k n)
        (All-map (Small k) (exact_of k) rows
        (λ i none low. row_small (get_or rows i none) (All-get_or Sound rows i none low sound) (All-get_or (Fit k n) rows i none low fit).read))
        (all_counting (Small k) (floor_of k) 0 n (λ p l u. omega (arith, laws.size_zero)))

  module _ (n : ℕ) (rows : List Row) (x : ℕ → Exact k) where
    -- earliest times come before those of any assignment
    pub times_least : Times k n rows x → Least k n rows x
    times_least t = record {
      solution = t.solution;
      least = λ y s p h. (earliest_theory laws).least (force k n rows) p (x p) (t.earliest p h) y s;
    }

    -- Bounds that can be met have earliest times, which are an assignment too; so they and the least times are each at most the other.
    pub least_times : 0 < n → All (Fit k n) rows → Least k n rows x → Times k n rows x
    least_times some fit l = record {
      solution = l.solution;
      earliest = λ p h. ⊎_elim (λ c. absurd ((chain_theory laws).refutes (force k n rows) c.0 c.1 x l.solution))
          (λ e. subst (Earliest k (force k n rows) p)
          (laws.antisymmetric _ _ ((earliest_theory laws).least (force k n rows) p (e.0 p) (e.2 p h) x l.solution) (l.least e.0 e.1 p h))
          (e.2 p h)) ((consistency laws).earliest n (map (exact_of k) rows) some (fit_inside k n rows fit));
    }
