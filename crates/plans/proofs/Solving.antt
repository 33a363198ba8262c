-- What settle and post come to, once their checks are passed. Assumes nothing.
use Rattle.std.proofs.Common.{◌≡◌, ◌≢◌, ℕ, ◌<◌, ◌≤◌, Bool, true, List, [], ◌∷◌, ◌++◌, map, length, Ok, Err, Result, refl, sym, ap, ◌∙◌, subst, inl, inr, arith}
use Rattle.std.proofs.Common.{append-nil, append_assoc, length-append}
use Rattle.std.specs.List.{All}
use Rattle.std.specs.Result.{IsErrAnd}
use Rattle.std.proofs.lemmas.Bool.{both_ways}
use Rattle.std.proofs.lemmas.List.{take-append-le}
use Rattle.std.proofs.lemmas.List.Elements.{All-push, All-weaker}
use Rattle.bounds.specs.declared.row.Row.{Row}
use Rattle.delays.specs.Kind.{Kind, Exact, Unread, Lawful}
use Rattle.books.specs.Meaning.{Meaning, bounds_of, with_bounds}
use Rattle.books.specs.Calls.{Adding}
use Rattle.books.specs.declared.fault.BookFault.{BookFault}
use Rattle.books.specs.declared.fault.BookFault.TheVariants.{Full}
use Rattle.plans.specs.declared.fault.PlanFault.{PlanFault}
use Rattle.plans.specs.declared.fault.PlanFault.TheVariants.{Conflict}
use Rattle.plans.specs.declared.posted.Posted.{Posted}
use Rattle.plans.specs.Faults.{of_book}
use Rattle.network.specs.Edges.{time_of_point}
use Rattle.relaxation.specs.ByLeft.{Lists}
use Rattle.relaxation.specs.declared.by_left.ByLeft.{ByLeft}
use Rattle.relaxation.proofs.Rows.{times_least}
use Rattle.plans.specs.Marks.{Mark}
use Rattle.plans.specs.Rows.{Fit, Covered, Times, moved_count}
use Rattle.plans.specs.Conflicts.{ChainWritten}
use Rattle.plans.specs.Answers.{Call, settle, post, settled as settled_answer, covered, moved, refused}
use Rattle.plans.specs.States.{State, rows, settling, posting}
use Rattle.plans.specs.Steps.{Step}
use Rattle.plans.specs.Runs.{Tries}
use Rattle.plans.specs.Soundness.{Restores, Settled, Sound}
use Rattle.plans.specs.Plans.{Refused, post_answer, ChainOrSame, AddedOrSame}
use Rattle.plans.proofs.Least.{least_same}
use Rattle.plans.proofs.Checked.{settle_decided, post_decided}

module _ (k : Kind) (s : State) {length : ℕ} {bounds : List Row} where
  -- a settle
  module _ (tries : Tries k s (settle length) bounds) where
    pub settle_conflict : {before after : List ℕ} {c : ℕ} → ChainWritten k s.points (rows s) [] before after c
        → Step k s (settle length) (refused (Conflict c)) s
    settle_conflict {c = c} w =
        settle_decided k s tries (refused (Conflict c)) s
        (inl (w.row, rw (append-nil (rows s)) at w.chain, (ap (λ m. refused (Conflict m)) (sym w.count), refl)))

    pub settle_settled : {x : ℕ → Exact k} {count : ℕ} → Times k s.points (rows s) x → count ≡ moved_count k s.points (λ p. k.zero) x
        → Step k s (settle length) (settled_answer count) (settling s)
    settle_settled {x = x} {count = count} t e = settle_decided k s tries (settled_answer count) (settling s) (inr (x, t, (ap settled_answer e, refl)))

  -- a post
  module _ {b : Row} (tries : Tries k s (post length b) bounds) where
    pub post_covered : Covered k (rows s) b → Step k s (post length b) covered s
    post_covered c = post_decided k s length b tries covered s (inl (c, (refl, refl)))

    module _ (bare : Covered k (rows s) b → ⊥) where
      pub post_conflict : {before after : List ℕ} {c : ℕ} → ChainWritten k s.points (rows s) (b ∷ []) before after c
          → Step k s (post length b) (refused (Conflict c)) s
      post_conflict {c = c} w =
          post_decided k s length b tries (refused (Conflict c)) s (inr (bare, inl (w.row, w.chain, (ap (λ m. refused (Conflict m)) (sym w.count), refl))))

      -- the book has no free place: its fault is carried whole
      pub post_full : {x : ℕ → Exact k} {t : State} (r : Result Posted PlanFault) (f : BookFault) → IsErrAnd r (λ e. e ≡ of_book f)
          → Times k s.points (rows s ++ b ∷ []) x → s.book.free ≡ 0 → t ≡ s → Step k s (post length b) (post_answer r) t
      post_full (Ok p) f none times full same = absurd none
      post_full {x = x} {t = t} (Err e) Full is times full same =
          post_decided k s length b tries (refused e) t (inr (bare, inr (x, times, inl (full, (ap refused is, same)))))

      pub post_moved : {x old : ℕ → Exact k} {count : ℕ} {t : State} → Times k s.points (rows s ++ b ∷ []) x → Times k s.points (rows s) old
          → (s.book.free ≡ 0 → ⊥) → count ≡ moved_count k s.points old x → t ≡ posting b s → Step k s (post length b) (moved count) t
      post_moved {x = x} {old = old} {count = count} {t = t} new before room e same =
          post_decided k s length b tries (moved count) t (inr (bare, inr (x, new, inr (room, (old, before, (ap moved e, same))))))

-- a plan that is settled with no mark open
pub sound_settled : {k : Kind} → Lawful k → {X : Type 0} {means : X → Exact k} {book : Meaning} {n : ℕ} {times : List X} {index : ByLeft}
    {marks : List (Mark X)} {found : ℕ → Exact k} → 0 < n → n ≤ 128 → All (Fit k n) (bounds_of book) → Times k n (bounds_of book) found
    → ((p : ℕ) → p < n → time_of_point k means times p ≡ found p) → Lists index (map (λ r. r.left) (bounds_of book)) → marks ≡ []
    → Sound k means book n true times index marks
sound_settled {k = k} laws {means = means} {book = book} {n = n} {times = times} {index = index} {found = found} some few fit earliest same listed none =
    subst (Sound k means book n true times index) (sym none) (record {
      marks_few = omega arith;
      unsettled = λ off. absurd (both_ways true off refl);
      settled_times = λ on. record {
        some = some;
        few = few;
        fit = fit;
        least = least_same n (bounds_of book) some fit same (times_least laws n (bounds_of book) found earliest);
        listed = listed;
        restores = λ i d h. absurd (let never : ⊥ = omega (arith, h) in never);
        rising = λ i j d l h. absurd (let never : ⊥ = omega (arith, h) in never);
      };
    })

module _ {k : Kind} (laws : Lawful k) {X : Type 0} {means : X → Exact k} {book : Meaning} {n : ℕ} {times : List X} {index : ByLeft} {marks : List (Mark X)}
    (sound : Settled k means book n times index marks) where
  -- one bound more: each mark is restored as before, since it noted fewer
  restores_posted : (b : Row) (m : Mark X) → Restores k means book n m → Restores k means (with_bounds book (b ∷ [])) n m
  restores_posted b m r = record {
    added = omega (arith, r.added, length-append book.added (b ∷ []));
    least = rw (take-append-le m.added book.added (b ∷ []) r.added) r.least;
  }

  pub sound_posted : {settled : Bool} {after : Meaning} {found : ℕ → Exact k} → length marks ≤ 8 → (b : Row) (new : List X) (listing : ByLeft)
      → settled ≡ true → Fit k n b → Times k n (bounds_of book ++ b ∷ []) found → ((p : ℕ) → p < n → time_of_point k means new p ≡ found p)
      → after ≡ with_bounds book (b ∷ []) → Lists listing (map (λ r. r.left) (bounds_of after)) → Sound k means after n settled new listing marks
  sound_posted {settled = settled} {after = after} {found = found} marks_few b new listing on fit earliest same_times same listed =
      let all : All (Fit k n) (bounds_of book ++ b ∷ []) = All-push (Fit k n) (bounds_of book) b sound.fit fit in
      let least = least_same n (bounds_of book ++ b ∷ []) sound.some all same_times (times_least laws n (bounds_of book ++ b ∷ []) found earliest) in
      let here : Lists listing (map (λ r. r.left) (bounds_of (with_bounds book (b ∷ [])))) = rw same at listed in
      subst (λ m. Sound k means m n settled new listing marks) (sym same) (record {
        marks_few = marks_few;
        unsettled = λ off. absurd (both_ways settled off on);
        settled_times = λ o. record {
          some = sound.some;
          few = sound.few;
          fit = rw (append_assoc book.fixed book.added (b ∷ [])) at all;
          least = rw (append_assoc book.fixed book.added (b ∷ [])) at least;
          listed = here;
          restores = All-weaker (Restores k means book n) (Restores k means (with_bounds book (b ∷ [])) n) (restores_posted b) marks sound.restores;
          rising = sound.rising;
        };
      })

  -- the bounds are listed anew, and the book is the very same
  pub sound_relisted : {settled : Bool} {after : Meaning} → length marks ≤ 8 → (listing : ByLeft) → settled ≡ true → after ≡ book
      → Lists listing (map (λ r. r.left) (bounds_of after)) → Sound k means after n settled times listing marks
  sound_relisted {settled = settled} {after = after} marks_few listing on same listed =
      let here : Lists listing (map (λ r. r.left) (bounds_of book)) = rw same at listed in
      subst (λ m. Sound k means m n settled times listing marks) (sym same) (record {
        marks_few = marks_few;
        unsettled = λ off. absurd (both_ways settled off on);
        settled_times = λ o. record {
          some = sound.some;
          few = sound.few;
          fit = sound.fit;
          least = sound.least;
          listed = here;
          restores = sound.restores;
          rising = sound.rising;
        };
      })

  -- the bound is added or refused, and the times are those with it too
  pub sound_kept : {S U : Type 0} (meaning : S → Meaning) (adds : S → Row → S → Type 0) {before after : S} {settled : Bool} → book ≡ meaning before
      → length marks ≤ 8 → (b : Row) (listing : ByLeft) → settled ≡ true → Fit k n b → Times k n (bounds_of book ++ b ∷ []) (time_of_point k means times)
      → (r : Result U BookFault) → Adding meaning adds before b after r → Lists listing (map (λ r. r.left) (bounds_of (meaning after)))
      → Sound k means (meaning after) n settled times listing marks
  sound_kept meaning adds e marks_few b listing on fit earliest (Ok u) added listed =
      sound_posted marks_few b times listing on fit earliest (λ p l. refl) (added.1 ∙ ap (λ m. with_bounds m (b ∷ [])) (sym e)) listed
  sound_kept meaning adds e marks_few b listing on fit earliest (Err Full) added listed =
      sound_relisted marks_few listing on (ap meaning added.1 ∙ sym e) listed

-- a book that refuses a bound has no free place, and is the very same
pub adding_full : {S : Type 0} (meaning : S → Meaning) (adds : S → Row → S → Type 0) {before after : S} (row : Row) (U : Type 0) (f : BookFault)
    → Adding meaning {U = U} adds before row after (Err f) → ((meaning before).free ≡ 0) × (after ≡ before)
adding_full meaning adds row U Full h = h

-- a refusal by the book leaves it the very same
pub same_book : {S : Type 0} (meaning : S → Meaning) (adds : S → Row → S → Type 0) {before after : S} (row : Row) (r : Result Posted PlanFault)
    (P : PlanFault → Type 0) → IsErrAnd r P → after ≡ before → AddedOrSame meaning adds before row after r
same_book meaning adds row (Ok p) P none same = absurd none
same_book meaning adds row (Err e) P is same = same

-- a refusal that is no conflict leaves the list as it was
pub same_list : (k : Kind) (n : ℕ) (book posted : List Row) (before after : List ℕ) (A : Type 0) (e : PlanFault) → ((c : ℕ) → e ≢ Conflict c) → after ≡ before
    → ChainOrSame {A = A} k n book posted before after (Err e)
same_list k n book posted before after A (Conflict c) none same = absurd (none c refl)
same_list k n book posted before after A e none same = same

-- the fault of a check that refuses a post is its answer, and the list stays
module _ {k : Kind} {s : State} {call : Call} (r : Result Posted PlanFault) (e : PlanFault) (is : IsErrAnd r (λ x. x ≡ e)) (h : Refused k s call e) where
  pub post_refused : Step k s call (post_answer r) s
  post_refused = go r is
    where
      go : (q : Result Posted PlanFault) → IsErrAnd q (λ x. x ≡ e) → Step k s call (post_answer q) s
      go (Ok p) none = absurd none
      go (Err x) same = subst (λ f. Step k s call (refused f) s) (sym same) h.step

  pub list_kept : (n : ℕ) (book posted : List Row) (list : List ℕ) → ChainOrSame k n book posted list list r
  list_kept n book posted list = go r is
    where
      go : (q : Result Posted PlanFault) → IsErrAnd q (λ x. x ≡ e) → ChainOrSame k n book posted list list q
      go (Ok p) none = absurd none
      go (Err x) same = same_list k n book posted list list Posted x (λ c e'. h.no_conflict c (sym same ∙ e')) refl
