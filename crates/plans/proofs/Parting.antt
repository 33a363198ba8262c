-- A run in parts, and the marks that its calls opened. Assumes nothing.
use Rattle.std.proofs.Common.{◌≡◌, ℕ, ◌+◌, ◌-◌, ◌<◌, ◌≤◌, ◌⊎◌, List, [], ◌∷◌, ◌++◌, length, sym, refl, ap, ◌∙◌, subst, inl, inr, arith}
use Rattle.std.proofs.lemmas.List.{length-append, length-take}
use Rattle.std.proofs.lemmas.List.Elements.{All-nil, All-cons, All-head, All-tail}
use Rattle.std.proofs.lemmas.Bool.{cases_eq}
use Rattle.delays.specs.Kind.{Kind}
use Rattle.plans.specs.Answers.{Call, mark, Answer, slip}
use Rattle.plans.specs.States.{State, depth, marking}
use Rattle.plans.specs.Runs.{Said, Run, rests, goes, OpensNone, Unmarked, MarkOf}
use Rattle.plans.proofs.Changing.{Change, same, settles, posts, marks, keeps, backs, change, opens}

module _ {k : Kind} where
  -- a run goes through a plan between two parts
  pub split : (xs ys : List (Said k)) {s t : State} → Run k s (xs ++ ys) t → (u : State) × Run k s xs u × Run k u ys t
  split [] ys {s} r = (s, rests, r)
  split (x ∷ xs) ys (goes p r) = let h = split xs ys r in (h.0, goes p h.1, h.2)

  pub join : {s t u : State} {xs ys : List (Said k)} → Run k s xs u → Run k u ys t → Run k s (xs ++ ys) t
  join rests q = q
  join (goes p r) q = goes p (join r q)

  -- a plan less deep than d stays so, where no mark is opened at depth d
  low_change : (d : ℕ) {s t : State} {c : Call} {a : Answer k} → Change k s c a t → OpensNone {k = k} d (c, a) → depth s < d → depth t < d
  low_change d (same q) n h = h
  low_change d (settles x e f) n h = h
  low_change d (posts x e f g) n h = h
  low_change d {s} (marks f) n h = go (cases_eq (depth s + 1) d)
    where
      go : (depth s + 1 ≡ d) ⊎ (depth s + 1 ≡ d → ⊥) → depth (marking s) < d
      go (inl e) = absurd (n s.number (ap {B = Said k} (λ (j : ℕ). (mark, slip s.number j)) e))
      go (inr ne) = omega (arith, length-append s.marks (length s.book.added ∷ []))
  low_change d {s} (keeps {d = i} e l m f) n h = omega (arith, length-take (i - 1) s.marks)
  low_change d {s} (backs {d = i} e l m f) n h = omega (arith, length-take (i - 1) s.marks)

  -- and so after many calls
  pub low_run : (d : ℕ) {s t : State} (xs : List (Said k)) → Run k s xs t → Unmarked d xs → depth s < d → depth t < d
  low_run d [] rests n h = h
  low_run d (x ∷ xs) (goes {t = v} {c = c} {a = a} p r) n h =
      low_run d xs r (All-tail (OpensNone d) x xs n) (low_change d (change c a v p) (All-head (OpensNone d) x xs n) h)

  -- a call with its answer that opens a mark at depth d, or none there
  abbrev Marks : ℕ → Said k → Type 0
  Marks d x = ((number : ℕ) × (x ≡ (mark, slip number d))) ⊎ OpensNone d x

  marks_change : (d : ℕ) {s t : State} {c : Call} {a : Answer k} → Change k s c a t → Marks d (c, a)
  marks_change d (same q) = inr (λ number e. q.no_slip number d (ap (λ (x : Said k). x.1) e))
  marks_change d (settles x e f) = inr (λ number e. let g = ap (λ (x : Said k). x.0) e in cc)
  marks_change d (posts x e f g) = inr (λ number e. let g = ap (λ (x : Said k). x.0) e in cc)
  marks_change d {s} (marks f) = go (cases_eq (depth s + 1) d)
    where
      go : (depth s + 1 ≡ d) ⊎ (depth s + 1 ≡ d → ⊥) → Marks d (mark, slip s.number (depth s + 1))
      go (inl e) = inl (s.number, ap {B = Said k} (λ (j : ℕ). (mark, slip s.number j)) e)
      go (inr n) = inr (λ number e. let g = ap (λ (x : Said k). x.1) e in n cc)
  marks_change d (keeps e l m f) = inr (λ number e. let g = ap (λ (x : Said k). x.0) e in cc)
  marks_change d (backs e l m f) = inr (λ number e. let g = ap (λ (x : Said k). x.0) e in cc)

  abbrev SomeMark : ℕ → List (Said k) → Type 0
  SomeMark d xs = (number : ℕ) × MarkOf number d xs

  -- the latest mark at depth d, or none
  latest : (d : ℕ) {s t : State} (xs : List (Said k)) → Run k s xs t → SomeMark d xs ⊎ Unmarked d xs
  latest d [] rests = inr (All-nil (OpensNone d))
  latest d (x ∷ xs) (goes {t = v} {c = c} {a = a} p r) = go (latest d xs r) (marks_change d (change c a v p))
    where
      go : SomeMark d xs ⊎ Unmarked d xs → Marks d x → SomeMark d (x ∷ xs) ⊎ Unmarked d (x ∷ xs)
      go (inl l) h = let m = l.1 in
          inl (l.0, record { before = x ∷ m.before; inner = m.inner; split = ap {B = List (Said k)} (λ r. x ∷ r) m.split; unmarked = m.unmarked })
      go (inr n) (inl h) = inl (h.0, record { before = []; inner = xs; split = ap {B = List (Said k)} (λ y. y ∷ xs) h.1; unmarked = n })
      go (inr n) (inr h) = inr (All-cons (OpensNone d) x xs h n)

  number_change : {s t : State} {c : Call} {a : Answer k} → Change k s c a t → t.number ≡ s.number
  number_change (same q) = refl
  number_change (settles x e f) = refl
  number_change (posts x e f g) = refl
  number_change (marks f) = refl
  number_change (keeps e l m f) = refl
  number_change (backs e l m f) = refl

  number_run : {s t : State} {xs : List (Said k)} → Run k s xs t → t.number ≡ s.number
  number_run rests = refl
  number_run (goes {t = v} {c = c} {a = a} p r) = number_run r ∙ number_change (change c a v p)

  -- a slip has the number of the plan, and that never changes
  mark_number : {v u : State} (number d : ℕ) (inner : List (Said k)) → Run k v ((mark, slip number d) ∷ inner) u → number ≡ u.number
  mark_number number d inner (goes {t = w} p r) =
      let c = change mark (slip number d) w p in (opens c).number_is ∙ sym (number_run r ∙ number_change c)

  -- a plan with a mark open at depth d comes from a run that opened it, and none there since
  pub opened_mark : (d : ℕ) {s u : State} (xs : List (Said k)) → depth s ≡ 0 → Run k s xs u → 0 < d → d ≤ depth u → MarkOf u.number d xs
  opened_mark d {s} {u} xs none r some deep = go (latest d xs r)
    where
      go : SomeMark d xs ⊎ Unmarked d xs → MarkOf u.number d xs
      go (inr n) = let low : depth u < d = low_run d xs r n (omega arith) in absurd (omega arith)
      go (inl m) =
          let f = m.1 in
          let h = split f.before ((mark, slip m.0 d) ∷ f.inner) (subst (λ (z : List (Said k)). Run k s z u) f.split r) in
          subst (λ (j : ℕ). MarkOf j d xs) (mark_number m.0 d f.inner h.2) f
