-- Rounds that go on raise a label over a chain: the bounds up to the first repeat of a point. Assumes nothing.
use Rattle.std.proofs.Common.{◌≡◌, ℕ, zero, suc, ◌+◌, ◌-◌, ◌<◌, ◌≤◌, map, sym, ap, ◌∙◌, arith}
use Rattle.std.proofs.lemmas.Simd.{map-map}
use Rattle.std.specs.List.{Contains, range_with_len}
use Rattle.delays.specs.Kind.{Kind, Exact, Lawful}
use Rattle.network.specs.Bounds.{ExactBound, Bounds}
use Rattle.network.specs.Assignments.{Lt}
use Rattle.network.specs.Walks.{sum_of, Walk}
use Rattle.network.specs.Rounds.{Traced, Repeated, RoundsRepeat}
use Rattle.network.proofs.Orders.{carry_sum, below_zero}
use Rattle.network.proofs.Counting.{all_counting, apart_counting, FirstRepeat, repeats}

module _ {k : Kind} (laws : Lawful k) {edges : Bounds k} {n m : ℕ} {point : ℕ → ℕ} {label : ℕ → Exact k} {via : ℕ → ExactBound k}
    (r : Traced k edges n m point label via) where
  walk_stretch : (i l j : ℕ) → i + l ≡ j → j ≤ m → Walk (point i) (map via (range_with_len i l)) (point j)
  walk_stretch i zero j e h = let same : i ≡ j = omega arith in ap point same
  walk_stretch i (suc l) j e h = (r.leaves i (omega arith), rw (r.reaches i (omega arith)) (walk_stretch (i + 1) l j (omega arith) h))

  sum_stretch : (i l j : ℕ) → i + l ≡ j → j ≤ m → label i ≡ k.sum (label j) (sum_of k (map via (range_with_len i l)))
  sum_stretch i zero j e h = let same : i ≡ j = omega arith in ap label same ∙ sym (laws.zero_adds_nothing (label j))
  sum_stretch i (suc l) j e h =
      carry_sum laws (label i) (label (i + 1)) (label j) (via i).delay (sum_of k (map via (range_with_len (i + 1) l)))
      (r.carried i (omega arith)) (sum_stretch (i + 1) l j (omega arith) h)

  -- From the first visit of a point to the next the label falls by the sum of the bounds between them, and it rises: the sum is below zero.
  chain_at : FirstRepeat point (suc m) → Repeated k edges m point via
  chain_at f =
      let i = f.from in
      let j = f.to in
      let i<j : i < j = f.before in
      let j≤m : j ≤ m = omega (arith, f.inside) in
      let meet : i + (j - i) ≡ j = omega arith in
      let row = map via (range_with_len i (j - i)) in
      let lower : Lt k (k.sum (label j) (sum_of k row)) (label j) = rw (sum_stretch i (j - i) j meet j≤m) at (r.rises i j i<j j≤m f.same) in
      record {
        from = i;
        to = j;
        before = i<j;
        within = j≤m;
        same = f.same;
        first = f.apart;
        chain = record {
          chain = record {
            start = point i;
            closed = rw (← f.same) at (walk_stretch i (j - i) j meet j≤m);
            apart = rw (map-map (λ b. b.left) via (range_with_len i (j - i)))
                (apart_counting (λ a. (via a).left) i (j - i)
                (λ a b s t u e. f.apart a b t (omega arith) (sym (r.leaves a (omega arith)) ∙ e ∙ r.leaves b (omega arith))));
            below = below_zero laws (label j) (sum_of k row) lower;
          };
          held = all_counting (Contains edges) via i (j - i) (λ a s u. r.held a (omega arith));
        };
      }

pub rounds_repeat : {k : Kind} → Lawful k → RoundsRepeat k
rounds_repeat laws edges n m point label via r h = chain_at laws r (repeats point n (suc m) (omega arith) (λ i u. r.inside i (omega arith)))
