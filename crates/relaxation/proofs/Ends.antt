-- Where every bound is met the spreading has ended: its times are the earliest. Assumes nothing.
use Rattle.std.proofs.Common.{◌≡◌, ℕ, ◌<◌, Bool, true, [], ◌∷◌, ◌++◌, sym, ap, ◌∙◌, subst, ⊎_elim, arith}
use Rattle.std.specs.List.{All, Contains}
use Rattle.std.proofs.lemmas.Bool.{cases_Bool}
use Rattle.std.proofs.lemmas.List.Elements.{All-append, All-weaker, All-contains_itself}
use Rattle.delays.specs.Kind.{Kind, Exact, Lawful}
use Rattle.delays.proofs.TheoryLaws.{theory}
use Rattle.network.specs.Bounds.{ExactBound, Bounds}
use Rattle.network.specs.Assignments.{Le, Meets, Solution}
use Rattle.network.specs.Walks.{sum_of, Walk}
use Rattle.network.specs.Earliest.{Earliest, Reached}
use Rattle.network.specs.Rounds.{carry}
use Rattle.network.proofs.Shortening.{sum_of-append, earliest_reached}
use Rattle.network.proofs.Walking.{walk_bounds_below}
use Rattle.relaxation.specs.Spreads.{Posed, asked, Spread}

pub walk_append : {k : Kind} (xs ys : Bounds k) (p q r : ℕ) → Walk p xs q → Walk q ys r → Walk p (xs ++ ys) r
walk_append [] ys p q r w v = subst (λ x. Walk x ys r) (sym w) v
walk_append (x ∷ xs) ys p q r w v = (w.0, walk_append xs ys x.right q r w.1 v)

module _ {k : Kind} (laws : Lawful k) where
  -- times less one delay meet the bounds that the times meet
  less_meets : (time : ℕ → Exact k) (x : Exact k) (b : ExactBound k) → Le k (asked k time b) (time b.right) → Meets k (λ p. carry k (time p) x) b
  less_meets time x b h =
      let y = time b.right in
      let z = k.opposite x in
      let moved : k.sum (k.sum y b.delay) z ≡ k.sum (k.sum y z) b.delay =
      laws.assoc y b.delay z ∙ (ap (k.sum y) (laws.comm b.delay z) ∙ sym (laws.assoc y z b.delay)) in
      subst (Le k (k.sum (time b.left) z)) moved (laws.shifts _ _ z ((theory laws).move_left (time b.left) y b.delay h))

  -- a walk from a point that is reached, to a point that has what it asks
  pub reached_along : (edges : Bounds k) (p q : ℕ) (x y : Exact k) (row : Bounds k) → Reached k edges p x → Walk p row q → All (Contains edges) row
      → y ≡ carry k x (sum_of k row) → Reached k edges q y
  reached_along edges p q x y row r w held e = record {
    row = r.row ++ row;
    walk = walk_append r.row row 0 p q r.walk w;
    held = All-append (Contains edges) r.row row r.held held;
    value = e ∙ (ap (λ z. carry k z (sum_of k row)) r.value
        ∙ (sym ((theory laws).opposite_sum (sum_of k r.row) (sum_of k row)) ∙ ap k.opposite (sym (sum_of-append laws r.row row))));
  }

  -- earliest times over some bounds are reached over more
  pub reached_among : (few edges : Bounds k) → ((b : ExactBound k) → Contains few b → Contains edges b) → (p : ℕ) (x : Exact k) → Earliest k few p x
      → Reached k edges p x
  reached_among few edges among p x e =
      record { row = e.row; walk = e.path.walk; held = All-weaker (Contains few) (Contains edges) among e.row e.path.held; value = e.value }

  module _ {n : ℕ} {met all : Bounds k} {root : ℕ} {start : ℕ → Exact k} (posed : Posed k n met all root start) {first : ExactBound k → Type 0}
      {risen : ℕ → Bool} {time : ℕ → Exact k} {over : ℕ → ExactBound k} (s : Spread k n all root first start risen time over) where
    begun_reached : (p : ℕ) → p < n → Reached k all p (start p)
    begun_reached p small = reached_among met all posed.among p (start p) (posed.earliest p small)

    -- a point that has not risen has its old time, and one that has got its time over a path from the root
    spread_reached : (p : ℕ) → p < n → Reached k all p (time p)
    spread_reached p small = ⊎_elim came (λ e. subst (Reached k all p) (sym (s.still p e)) (begun_reached p small)) (cases_Bool (risen p))
      where
        came : risen p ≡ true → Reached k all p (time p)
        came e =
            let c = s.came p e in
            let from = subst (Reached k all root) (sym (s.still root s.root_still)) (begun_reached root posed.some) in
            reached_along all root p (time root) (time p) (c.lead ∷ c.rest) from c.path.walk c.path.held c.value

    module _ (heeds : (b : ExactBound k) → Contains all b → Le k (asked k time b) (time b.right)) where
      -- so the times less any delay meet all bounds
      less_meets_all : (x : Exact k) → All (Meets k (λ p. carry k (time p) x)) all
      less_meets_all x =
          let times = λ (p : ℕ). carry k (time p) x in
          All-weaker (Contains all) (Meets k times) (λ b has. less_meets time x b (heeds b has)) all (All-contains_itself all)

      -- Point 0 stays at zero. It never fell; and it is reached by a walk, which asks at most zero of it, since times that meet the bounds have it there.
      zero_still : time 0 ≡ k.zero
      zero_still =
          let r = spread_reached 0 (omega (arith, posed.some)) in
          let times = λ (p : ℕ). carry k (time p) (time 0) in
          let solution : Solution k all times = record { zero_first = laws.cancels (time 0); meets = less_meets_all (time 0) } in
          let below : Le k (time 0) k.zero =
          subst (λ x. Le k x k.zero) (sym r.value)
          (subst (Le k (k.opposite (sum_of k r.row))) (laws.cancels (time 0)) (walk_bounds_below laws all times solution 0 r.row r.walk r.held)) in
          laws.antisymmetric _ _ below (subst (λ x. Le k x (time 0)) posed.solution.zero_first (s.grown 0))

      pub ends : Solution k all time × ((p : ℕ) → p < n → Earliest k all p (time p))
      ends = (solution, λ p small. earliest_reached laws all time solution p (spread_reached p small))
        where
          solution : Solution k all time
          solution = record {
            zero_first = zero_still;
            meets = All-weaker (Contains all) (Meets k time)
                (λ b has. (theory laws).move_left (time b.left) (time b.right) b.delay (heeds b has)) all (All-contains_itself all);
          }
