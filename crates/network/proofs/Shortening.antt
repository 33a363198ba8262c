-- Walks cut to paths, and the earliest times. Assumes nothing.
use Rattle.std.proofs.Common.{◌≡◌, ℕ, ◌⊎◌, List, [], ◌∷◌, ◌++◌, length, sym, refl, ap, ◌∙◌, subst, inl, inr}
use Rattle.std.specs.List.{All, Contains}
use Rattle.std.proofs.lemmas.List.Elements.{All-head, All-tail, All-nil, All-cons, All-take, All-drop}
use Rattle.std.proofs.Math.Seq.{take-append_seam, drop-append_seam}
use Rattle.std.proofs.lemmas.Bool.{cases_eq}
use Rattle.delays.specs.Kind.{Kind, Exact, Lawful}
use Rattle.network.specs.Bounds.{ExactBound, Bounds}
use Rattle.network.specs.Assignments.{Le, Solution}
use Rattle.network.specs.Walks.{sum_of, Walk, stops, Apart, Shorter, WalkShortens}
use Rattle.network.specs.Earliest.{Reached, EarliestReached, EarliestLeast, EarliestOne}
use Rattle.network.proofs.Orders.{sum_orders, no_less, opposites_reverse}
use Rattle.network.proofs.Counting.{apart_tail, apart_cons, apart_one}
use Rattle.network.proofs.Walking.{walk_bounds_below, closed_at_least}

-- what holds of each element of a list holds of those of its parts
pub all_front : {A : Type 0} (P : A → Type 0) (xs ys : List A) → All P (xs ++ ys) → All P xs
all_front P xs ys h = subst (All P) (take-append_seam xs ys) (All-take P (length xs) (xs ++ ys) h)

pub all_back : {A : Type 0} (P : A → Type 0) (xs ys : List A) → All P (xs ++ ys) → All P ys
all_back P xs ys h = subst (All P) (drop-append_seam xs ys) (All-drop P (length xs) (xs ++ ys) h)

-- a walk from r to q that comes to p, taken apart there
pub record Parted {k : Kind} (p r q : ℕ) (row : Bounds k) : Type 0 where
  pub front : Bounds k
  pub back : Bounds k
  pub split : row ≡ front ++ back
  pub there : Walk r front p
  pub onward : Walk p back q
  pub apart : Apart (stops r row) → Apart (stops p back)

-- a walk that does not come to p
abbrev pub Off : {k : Kind} → ℕ → ℕ → Bounds k → Type 0
Off p r row = All (λ y. ¬ (p ≡ y)) (stops r row)

pub seek : {k : Kind} (p r q : ℕ) (row : Bounds k) → Walk r row q → Parted p r q row ⊎ Off p r row
seek {k} p r q [] w = go (cases_eq p r)
  where
    go : (p ≡ r) ⊎ (p ≡ r → ⊥) → Parted {k = k} p r q [] ⊎ Off {k = k} p r []
    go (inl e) = inl (record { front = []; back = []; split = refl; there = sym e; onward = e ∙ w; apart = λ a. apart_one p })
    go (inr ne) = inr (All-cons (λ y. ¬ (p ≡ y)) r [] ne (All-nil (λ y. ¬ (p ≡ y))))
seek {k} p r q (b ∷ bs) w = go (cases_eq p r) (seek p b.right q bs w.1)
  where
    go : (p ≡ r) ⊎ (p ≡ r → ⊥) → Parted p b.right q bs ⊎ Off p b.right bs → Parted p r q (b ∷ bs) ⊎ Off p r (b ∷ bs)
    go (inl e) d = inl (record {
      front = [];
      back = b ∷ bs;
      split = refl;
      there = sym e;
      onward = (w.0 ∙ sym e, w.1);
      apart = λ a. subst (λ (x : ℕ). Apart (stops x (b ∷ bs))) (sym e) a;
    })
    go (inr ne) (inl c) = inl (record {
      front = b ∷ c.front;
      back = c.back;
      split = ap {B = Bounds k} (λ l. b ∷ l) c.split;
      there = (w.0, c.there);
      onward = c.onward;
      apart = λ a. c.apart (apart_tail r (stops b.right bs) a);
    })
    go (inr ne) (inr off) = inr (All-cons (λ y. ¬ (p ≡ y)) r (stops b.right bs) ne off)

module _ {k : Kind} (laws : Lawful k) where
  pub sum_of-append : (xs ys : Bounds k) → sum_of k (xs ++ ys) ≡ k.sum (sum_of k xs) (sum_of k ys)
  sum_of-append [] ys = sym (laws.comm k.zero (sum_of k ys) ∙ laws.zero_adds_nothing (sum_of k ys))
  sum_of-append (x ∷ xs) ys = ap (k.sum x.delay) (sum_of-append xs ys) ∙ sym (laws.assoc x.delay (sum_of k xs) (sum_of k ys))

  module _ (edges : Bounds k) (t : ℕ → Exact k) (s : Solution k edges t) where
    -- A bound goes in front of a path. Where the path comes back to the bound's left point, the closed part up to there is dropped:
    -- its sum is not below zero, since the bounds can be met.
    lead : (p q : ℕ) (b : ExactBound k) (bs : Bounds k) → b.left ≡ p → Contains edges b → (r : Shorter k edges b.right q bs)
        → Parted p b.right q r.cut ⊎ Off p b.right r.cut → Shorter k edges p q (b ∷ bs)
    lead p q b bs e f r (inr off) = record {
      cut = b ∷ r.cut;
      path = record {
        walk = (e, r.path.walk);
        apart = apart_cons p (stops b.right r.cut) off r.path.apart;
        held = All-cons (Contains edges) b r.cut f r.path.held;
      };
      less = sum_orders laws b.delay _ _ r.less;
    }
    lead p q b bs e f r (inl c) =
        let parts : All (Contains edges) (c.front ++ c.back) = rw c.split at r.path.held in
        let loop = b ∷ c.front in
        let free : Le k k.zero (sum_of k loop) =
        closed_at_least laws edges t s p loop (e, c.there) (All-cons (Contains edges) b c.front f (all_front (Contains edges) c.front c.back parts)) in
        let whole : sum_of k (b ∷ r.cut) ≡ k.sum (sum_of k loop) (sum_of k c.back) = ap (λ l. sum_of k (b ∷ l)) c.split ∙ sum_of-append loop c.back in
        record {
          cut = c.back;
          path = record { walk = c.onward; apart = c.apart r.path.apart; held = all_back (Contains edges) c.front c.back parts };
          less = laws.transitive _ _ _ (rw whole (no_less laws (sum_of k loop) (sum_of k c.back) free)) (sum_orders laws b.delay _ _ r.less);
        }

    shortened : (p q : ℕ) (row : Bounds k) → Walk p row q → All (Contains edges) row → Shorter k edges p q row
    shortened p q [] w h = record { cut = []; path = record { walk = w; apart = apart_one p; held = h }; less = laws.reflexive k.zero }
    shortened p q (b ∷ bs) w h =
        let r = shortened b.right q bs w.1 (All-tail (Contains edges) b bs h) in
        lead p q b bs w.0 (All-head (Contains edges) b bs h) r (seek p b.right q r.cut r.path.walk)

    -- the sum of a walk that gives the time of p is at most that of any walk to p
    under : (p : ℕ) (r : Reached k edges p (t p)) (other : Bounds k) → Walk 0 other p → All (Contains edges) other → Le k (sum_of k r.row) (sum_of k other)
    under p r other w h = opposites_reverse laws (sum_of k other) (sum_of k r.row) (rw r.value at (walk_bounds_below laws edges t s p other w h))

  pub walk_shortens : WalkShortens k
  walk_shortens = shortened

  pub earliest_reached : EarliestReached k
  earliest_reached edges t s p r =
      let c = shortened edges t s 0 p r.row r.walk r.held in
      let same : sum_of k r.row ≡ sum_of k c.cut = laws.antisymmetric _ _ (under edges t s p r c.cut c.path.walk c.path.held) c.less in
      record {
        row = c.cut;
        path = c.path;
        value = r.value ∙ ap k.opposite same;
        least = λ other o. rw (← same) (under edges t s p r other o.walk o.held);
      }

  pub earliest_least : EarliestLeast k
  earliest_least edges p x e u s = rw e.value (walk_bounds_below laws edges u s p e.row e.path.walk e.path.held)

  pub earliest_one : EarliestOne k
  earliest_one edges p x y e f =
      e.value ∙ (ap k.opposite (laws.antisymmetric _ _ (e.least f.row f.path) (f.least e.row e.path)) ∙ sym f.value)
