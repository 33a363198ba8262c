-- How many points have two times. Assumes nothing.
use Rattle.std.proofs.Common.{◌≡◌, ℕ, ◌+◌, ◌<◌, ◌≤◌, List, ◌++◌, map, length, get_or, take, zero, suc, Bool, true, false, not, cond, ◌⊎◌, Decides, sym, refl, ap, ◌∙◌, subst, inl, inr, add-one, add-zero, arith}
use Rattle.std.proofs.lemmas.Bool.{cases_Bool}
use Rattle.std.proofs.lemmas.List.{get_or-map, get_or-take, get_or_append_left, length-map, map-append, take-map}
use Rattle.network.specs.Edges.{time_of_point}
use Rattle.delays.specs.Kind.{Kind, Exact, Lawful}
use Rattle.plans.specs.Rows.{tally, differ, moved_count}

pub tally_few : (test : ℕ → Bool) (n : ℕ) → tally test n ≤ n
tally_few test zero = omega arith
tally_few test (suc n) =
    elim (test n) as (λ b. tally test n + cond b 1 0 ≤ suc n) [ true ↦ omega (arith, tally_few test n) | false ↦ omega (arith, tally_few test n) ]

module _ {k : Kind} (laws : Lawful k) where
  -- a test that tells whether delays are one tells those that do not differ
  differ_decided : (x y : Exact k) (one : Bool) → Decides one (x ≡ y) → not one ≡ differ k x y
  differ_decided x y true d =
      let up : k.leq x y ≡ true = subst (λ z. k.leq x z ≡ true) (d.0 refl) (laws.reflexive x) in
      let down : k.leq y x ≡ true = subst (λ z. k.leq z x ≡ true) (d.0 refl) (laws.reflexive x) in
      rw (up, down) refl
  differ_decided x y false d = by (cases_Bool (k.leq x y)) (cases_Bool (k.leq y x))
    where
      by : (k.leq x y ≡ true) ⊎ (k.leq x y ≡ false) → (k.leq y x ≡ true) ⊎ (k.leq y x ≡ false) → true ≡ differ k x y
      by (inl a) (inl b) = let never : false ≡ true = d.1 (laws.antisymmetric x y a b) in cc
      by (inl a) (inr b) = rw (a, b) refl
      by (inr a) e = rw a refl

  -- one point more, whose times before and after are u and v, and are told to be two or not
  pub moved_more : (x y : ℕ → Exact k) (n : ℕ) (u v : Exact k) (one told two : Bool) (count next : ℕ) → u ≡ x n → v ≡ y n → Decides one (u ≡ v)
      → told ≡ not one → told ≡ two → count ≡ moved_count k n x y → next ≡ count + cond two 1 0 → next ≡ moved_count k (n + 1) x y
  moved_more x y n u v one told two count next before after d e f so_far more =
      let same : two ≡ differ k (x n) (y n) = sym f ∙ e ∙ differ_decided u v one d ∙ ap (λ z. differ k z v) before ∙ ap (differ k (x n)) after in
      more ∙ ap (λ m. m + cond two 1 0) so_far ∙ ap (λ b. moved_count k n x y + cond b 1 0) same ∙ sym (ap (λ m. moved_count k m x y) (add-one n))

-- a time that is read from its place
pub read_time : {X : Type 0} (k : Kind) (means : X → Exact k) (times : List X) (p : ℕ) (x : X) → p < length times → x ≡ get_or times p x
    → means x ≡ time_of_point k means times p
read_time k means times p x low is = ap means is ∙ sym (get_or-map means times p x k.zero low)

-- where the first of the times are copied from others, they are those
pub front_copied : {X : Type 0} (k : Kind) (means : X → Exact k) (source old copy : List X) (n : ℕ) → copy ≡ take n source → length copy ≡ n
    → (p : ℕ) → p < n → time_of_point k means (copy ++ old) p ≡ time_of_point k means source p
front_copied k means source old copy n e whole p low =
    let long : length (map means copy) ≡ n = length-map copy means ∙ whole in
    ap (λ l. get_or l p k.zero) (map-append means copy old)
    ∙ (get_or_append_left (map means copy) (map means old) k.zero p (omega arith)
    ∙ (ap (λ l. get_or (map means l) p k.zero) e ∙ (ap (λ l. get_or l p k.zero) (sym (take-map means n source)) ∙ get_or-take n (map means source) p k.zero low)))

tally_same : (test other : ℕ → Bool) (n : ℕ) → ((p : ℕ) → p < n → test p ≡ other p) → tally test n ≡ tally other n
tally_same test other zero h = refl
tally_same test other (suc n) h =
    ap (λ m. m + cond (test n) 1 0) (tally_same test other n (λ p l. h p (omega arith))) ∙ ap (λ b. tally other n + cond b 1 0) (h n (omega arith))

-- only the first n times count
pub moved_same : (k : Kind) (n : ℕ) (x x' y y' : ℕ → Exact k) → ((p : ℕ) → p < n → x p ≡ x' p) → ((p : ℕ) → p < n → y p ≡ y' p)
    → moved_count k n x y ≡ moved_count k n x' y'
moved_same k n x x' y y' before after =
    tally_same (λ p. differ k (x p) (y p)) (λ p. differ k (x' p) (y' p)) n
    (λ p l. ap (λ z. differ k z (y p)) (before p l) ∙ ap (differ k (x' p)) (after p l))

-- no point moves from times to themselves
pub moved_none : {k : Kind} → Lawful k → (n : ℕ) (x : ℕ → Exact k) → moved_count k n x x ≡ 0
moved_none laws zero x = refl
moved_none {k} laws (suc n) x =
    let same : differ k (x n) (x n) ≡ false = rw (laws.reflexive (x n)) refl in
    ap (λ b. moved_count k n x x + cond b 1 0) same ∙ (add-zero (moved_count k n x x) ∙ moved_none laws n x)
