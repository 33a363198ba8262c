-- What remains of a run, and that the book's bounds are those that it accepted. Assumes nothing.
use Rattle.std.proofs.Common.{◌≡◌, ℕ, ◌<◌, ◌≤◌, List, [], ◌∷◌, ◌++◌, length, sym, refl, ap, ◌∙◌, subst, append_assoc, append-nil}
use mathlib.Core.Path.{subst⁻¹}
use Rattle.std.proofs.Math.Seq.{take-append_seam}
use Rattle.std.specs.List.{All}
use Rattle.std.proofs.lemmas.List.Elements.{All-nil, All-push, All-take, All-head, All-tail}
use Rattle.bounds.specs.declared.row.Row.{Row}
use Rattle.delays.specs.Kind.{Kind}
use Rattle.plans.specs.Answers.{Call, mark, back, Answer, slip, done}
use Rattle.plans.specs.States.{State, rows, depth}
use Rattle.plans.specs.Runs.{Said, Run, rests, goes, Opened, Forward, Remaining, start, further, taken, accepted, all_accepted, BooksStand}
use Rattle.plans.proofs.Changing.{Change, same, settles, posts, marks, keeps, backs, change}
use Rattle.plans.proofs.Parting.{join, opened_mark}
use Rattle.plans.proofs.TakingBack.{remaining_run}

-- t has the bounds of s, and then more
record Grown (s : State) (more : List Row) (t : State) : Type 0 where
  fixed_is : t.book.fixed ≡ s.book.fixed
  added_is : t.book.added ≡ s.book.added ++ more

module _ {k : Kind} where
  -- no accepted back remains
  remaining_forward : {xs ys : List (Said k)} → Remaining xs ys → All Forward ys
  remaining_forward start = All-nil Forward
  remaining_forward (further {xs} {ys} {x} l n) = All-push Forward ys x (remaining_forward l) n
  remaining_forward (taken {xs} {ys} inner number d l n) =
      let rest = (mark, slip number d) ∷ inner in
      rw (take-append_seam ys ((mark, slip number d) ∷ inner)) at (All-take Forward (length ys) (ys ++ ((mark, slip number d) ∷ inner)) (remaining_forward l))

  -- a call that takes nothing back adds the bound that it accepted
  grown_change : {s t : State} {c : Call} {a : Answer k} → Change k s c a t → Forward {k = k} (c, a) → Grown s (accepted c a) t
  grown_change {s} (same q) n = record { fixed_is = refl; added_is = sym (ap (λ (l : List Row). s.book.added ++ l) q.accepts_none ∙ append-nil s.book.added) }
  grown_change {s} (settles x e f) n = record { fixed_is = refl; added_is = sym (append-nil s.book.added) }
  grown_change {s} (posts x e f g) n = record { fixed_is = refl; added_is = refl }
  grown_change {s} (marks f) n = record { fixed_is = refl; added_is = sym (append-nil s.book.added) }
  grown_change {s} (keeps e l m f) n = record { fixed_is = refl; added_is = sym (append-nil s.book.added) }
  grown_change {s} (backs {number} {d} e l m f) n = absurd (n number d refl)

  grown_run : {s t : State} (xs : List (Said k)) → Run k s xs t → All Forward xs → Grown s (all_accepted xs) t
  grown_run {s} [] rests n = record { fixed_is = refl; added_is = sym (append-nil s.book.added) }
  grown_run {s} (x ∷ xs) (goes {t = v} {c = c} {a = a} p r) n =
      let h = grown_change (change c a v p) (All-head Forward x xs n) in
      let i = grown_run xs r (All-tail Forward x xs n) in
      record {
        fixed_is = i.fixed_is ∙ h.fixed_is;
        added_is = i.added_is ∙ ap (λ (l : List Row). l ++ all_accepted xs) h.added_is ∙ append_assoc s.book.added (accepted c a) (all_accepted xs);
      }

  abbrev SomeRemains : List (Said k) → Type 0
  SomeRemains xs = (ys : List (Said k)) × Remaining xs ys

  module _ (s : State) (unmarked : depth s ≡ 0) where
    -- an accepted back has its mark among the calls that remain
    back_remains : {xs ys : List (Said k)} {u : State} {number d : ℕ} → Remaining xs ys → Run k s xs u → number ≡ u.number → 0 < d → d ≤ depth u
        → SomeRemains (xs ++ (back number d, done) ∷ [])
    back_remains {xs} {ys} {u} {number} {d} l r e some deep =
        let f = opened_mark d ys unmarked (remaining_run l u r) some deep in
        let whole : ys ≡ f.before ++ ((mark, slip number d) ∷ f.inner) = f.split ∙ ap (λ (j : ℕ). f.before ++ ((mark, slip j d) ∷ f.inner)) (sym e) in
        (f.before, taken f.inner number d (subst (Remaining xs) whole l) f.unmarked)

    -- one call more
    next_remains : {xs ys : List (Said k)} {u v : State} {c : Call} {a : Answer k} → Remaining xs ys → Run k s xs u → Change k u c a v
        → SomeRemains (xs ++ (c, a) ∷ [])
    next_remains l r (same q) = (_, further l (λ number d e. q.not_done (ap (λ (x : Said k). x.1) e)))
    next_remains l r (settles x e f) = (_, further l (λ number d e. let g = ap (λ (x : Said k). x.0) e in cc))
    next_remains l r (posts x e f g) = (_, further l (λ number d e. let g = ap (λ (x : Said k). x.0) e in cc))
    next_remains l r (marks f) = (_, further l (λ number d e. let g = ap (λ (x : Said k). x.0) e in cc))
    next_remains l r (keeps e n m f) = (_, further l (λ number d e. let g = ap (λ (x : Said k). x.0) e in cc))
    next_remains l r (backs e n g f) = back_remains l r e n g

    -- of every run something remains
    some_remains : (rest xs : List (Said k)) {ys : List (Said k)} {u t : State} → Remaining xs ys → Run k s xs u → Run k u rest t → SomeRemains (xs ++ rest)
    some_remains [] xs {ys} l r rests = (ys, subst⁻¹ (λ (z : List (Said k)). Remaining z ys) (append-nil xs) l)
    some_remains (x ∷ rest) xs l r (goes {t = v} {c = c} {a = a} p q) =
        let n = next_remains l r (change c a v p) in
        let h = some_remains rest (xs ++ (c, a) ∷ []) n.1 (join r (goes p rests)) q in
        (h.0, subst (λ (z : List (Said k)). Remaining z h.0) (append_assoc xs ((c, a) ∷ []) rest) h.1)

  -- what remains takes nothing back, so it adds each bound that it accepted
  pub books_stand : (s : State) → Opened s → BooksStand k s
  books_stand s o t xs r = (
    some_remains s (ap length o.unmarked) xs [] start rests r,
    λ ys l.
        let g = grown_run ys (remaining_run l t r) (remaining_forward l) in
        let both : rows t ≡ s.book.fixed ++ (s.book.added ++ all_accepted ys) = cc (g.fixed_is, g.added_is) in
        both ∙ sym (append_assoc s.book.fixed s.book.added (all_accepted ys)),
  )
