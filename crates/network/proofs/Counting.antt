-- Numbers below n of which no two are equal are at most n, so of more some number comes twice. Assumes nothing.
use Rattle.std.proofs.Common.{◌≡◌, ◌≢◌, ℕ, zero, suc, ◌+◌, ◌<◌, ◌≤◌, ◌⊎◌, List, [], ◌∷◌, ◌++◌}
use Rattle.std.proofs.Common.{map, length, get_or, eqb, eqb-true, refl, sym, ap, ◌∙◌, inl, inr, arith}
use Rattle.std.specs.List.{All, range_with_len}
use Rattle.std.proofs.lemmas.Bool.Decides.{Decides-eqb}
use Rattle.std.proofs.lemmas.List.Elements.{All-nil}
use Rattle.std.proofs.lemmas.List.Folds.{Any-from_list_any}
use Rattle.std.proofs.lemmas.List.FromFn.{length-map-range_with_len, get_or-map-range_with_len}
use Rattle.std.proofs.lemmas.List.Kept.{AllPairs-cons}
use Rattle.std.proofs.lemmas.List.Quantifiers.{all_pairs_push}
use Rattle.std.proofs.lemmas.Map.Made.{IsDistinct-from_AllPairs}
use Rattle.std.proofs.lemmas.Map.Steps.{length-le_from_distinct_below}
use Rattle.std.proofs.lemmas.Bool.{cases_eq}
use Rattle.network.specs.Walks.{Apart}

-- a list is apart exactly when its first number is none of the others, and those are apart
pub apart_head : (x : ℕ) (xs : List ℕ) → Apart (x ∷ xs) → All (λ y. ¬ (x ≡ y)) xs
unfolding Apart
apart_head x xs a k d h = a 0 (suc k) d (omega arith) (omega arith)

pub apart_tail : (x : ℕ) (xs : List ℕ) → Apart (x ∷ xs) → Apart xs
unfolding Apart
apart_tail x xs a i j d l h = a (suc i) (suc j) d (omega arith) (omega arith)

pub apart_cons : (x : ℕ) (xs : List ℕ) → All (λ y. ¬ (x ≡ y)) xs → Apart xs → Apart (x ∷ xs)
unfolding Apart
apart_cons = AllPairs-cons ◌≢◌

pub apart_nil : Apart []
unfolding Apart
apart_nil i j d l h = absurd (omega arith)

-- the first number may go to the end
pub apart_turn : (x : ℕ) (xs : List ℕ) → Apart (x ∷ xs) → Apart (xs ++ x ∷ [])
unfolding Apart
apart_turn x xs a = all_pairs_push ◌≢◌ xs x (apart_tail x xs a) (λ i d h e. apart_head x xs a i d h (sym e))

pub apart_one : (x : ℕ) → Apart (x ∷ [])
apart_one x = apart_cons x [] (All-nil (λ y. ¬ (x ≡ y))) apart_nil

pub apart_length : (n : ℕ) (xs : List ℕ) → Apart xs → All (λ x. x < n) xs → length xs ≤ n
unfolding Apart
apart_length n xs a h =
    length-le_from_distinct_below xs n (IsDistinct-from_AllPairs Decides-eqb xs a)
    (λ q e. let f = Any-from_list_any (eqb q) xs e in let small : get_or xs f.0 f.1 < n = h f.0 f.1 f.2 in omega (arith, small, f.3, eqb-true q f.1 f.4))

-- what holds of f at each number from i on, m of them
pub all_counting : {A : Type 0} (P : A → Type 0) (f : ℕ → A) (i m : ℕ) → ((a : ℕ) → i ≤ a → a < i + m → P (f a)) → All P (map f (range_with_len i m))
all_counting P f i m h k d u =
    let low : k < m = omega (arith, length-map-range_with_len f i m) in
    rw (get_or-map-range_with_len f i m k (i + k) d low refl) (h (i + k) (omega arith) (omega arith))

pub apart_counting : (f : ℕ → ℕ) (i m : ℕ) → ((a b : ℕ) → i ≤ a → a < b → b < i + m → ¬ (f a ≡ f b)) → Apart (map f (range_with_len i m))
unfolding Apart
apart_counting f i m h a b d l u e =
    let low : b < m = omega (arith, length-map-range_with_len f i m) in
    let first = get_or-map-range_with_len f i m a (i + a) d (omega arith) refl in
    let second = get_or-map-range_with_len f i m b (i + b) d low refl in
    h (i + a) (i + b) (omega arith) (omega arith) (omega arith) (sym first ∙ (e ∙ second))

-- the first repeat: the points before `to` are apart, and the point at `to` is that at `from`
pub record FirstRepeat (point : ℕ → ℕ) (m : ℕ) : Type 0 where
  pub from : ℕ
  pub to : ℕ
  pub before : from < to
  pub inside : to < m
  pub same : point from ≡ point to
  pub apart : (a b : ℕ) → a < b → b < to → ¬ (point a ≡ point b)

module _ (point : ℕ → ℕ) where
  abbrev Found : ℕ → ℕ → Type 0
  Found m x = (i : ℕ) × (i < m) × (point i ≡ x)

  abbrev Missed : ℕ → ℕ → Type 0
  Missed m x = (i : ℕ) → i < m → ¬ (point i ≡ x)

  abbrev Distinct : ℕ → Type 0
  Distinct m = (a b : ℕ) → a < b → b < m → ¬ (point a ≡ point b)

  find : (m x : ℕ) → Found m x ⊎ Missed m x
  find zero x = inr (λ i h e. omega arith)
  find (suc m) x = go (find m x) (cases_eq (point m) x)
    where
      go : Found m x ⊎ Missed m x → (point m ≡ x) ⊎ (point m ≡ x → ⊥) → Found (suc m) x ⊎ Missed (suc m) x
      go (inl f) d = inl (f.0, omega arith, f.2)
      go (inr none) (inl e) = inl (m, omega arith, e)
      go (inr none) (inr ne) = inr (λ i h e. last i h e (cases_eq i m))
        where
          last : (i : ℕ) → i < suc m → point i ≡ x → (i ≡ m) ⊎ (i ≡ m → ⊥) → ⊥
          last i h e (inl o) = ne (ap point (sym o) ∙ e)
          last i h e (inr o) = none i (omega arith) e

  repeat_or_apart : (m : ℕ) → FirstRepeat point m ⊎ Distinct m
  repeat_or_apart zero = inr (λ a b l u e. omega arith)
  repeat_or_apart (suc m) = go (repeat_or_apart m) (find m (point m))
    where
      go : FirstRepeat point m ⊎ Distinct m → Found m (point m) ⊎ Missed m (point m) → FirstRepeat point (suc m) ⊎ Distinct (suc m)
      go (inl r) f = inl (record { from = r.from; to = r.to; before = r.before; inside = omega arith; same = r.same; apart = r.apart })
      go (inr d) (inl f) = inl (record { from = f.0; to = m; before = f.1; inside = omega arith; same = f.2; apart = d })
      go (inr d) (inr none) = inr (λ a b l u e. last a b l u e (cases_eq b m))
        where
          last : (a b : ℕ) → a < b → b < suc m → point a ≡ point b → (b ≡ m) ⊎ (b ≡ m → ⊥) → ⊥
          last a b l u e (inl o) = none a (omega arith) (e ∙ ap point o)
          last a b l u e (inr o) = d a b l (omega arith) e

  pub repeats : (n m : ℕ) → n < m → ((i : ℕ) → i < m → point i < n) → FirstRepeat point m
  repeats n m h small = go (repeat_or_apart m)
    where
      go : FirstRepeat point m ⊎ Distinct m → FirstRepeat point m
      go (inl r) = r
      go (inr d) =
          let row = map point (range_with_len 0 m) in
          let apart : Apart row = apart_counting point 0 m (λ a b l o u. d a b o (omega arith)) in
          let few : length row ≤ n = apart_length n row apart (all_counting (λ x. x < n) point 0 m (λ a l u. small a (omega arith))) in
          absurd (omega (arith, length-map-range_with_len point 0 m))
