-- What marks, and taking them away again, make of a sound plan. Assumes nothing.
use Rattle.std.proofs.Common.{◌≡◌, ◌≢◌, ℕ, ◌+◌, ◌-◌, ◌<◌, ◌≤◌, Bool, true, false, List, [], ◌∷◌, ◌++◌, map, length, take, get_or, slice_index, sym, refl}
use Rattle.std.proofs.Common.{ap, ◌∙◌, subst, arith, length-append}
use Rattle.std.specs.List.{All, AllPairs}
use Rattle.std.proofs.Math.Seq.{take-append-add, take-append_seam, get_or-append_seam}
use Rattle.std.proofs.lemmas.List.{length-take-le, get_or_append_left, take_all, take-take, length-map, map-append}
use Rattle.std.proofs.lemmas.Bool.{both_ways}
use Rattle.std.proofs.lemmas.List.Elements.{All-take, All-push}
use Rattle.std.proofs.lemmas.List.Quantifiers.{all_pairs_push}
use Rattle.delays.specs.Kind.{Kind, Exact}
use Rattle.network.specs.Edges.{time_of_point}
use Rattle.books.specs.Meaning.{Meaning, bounds_of, cut_to}
use Rattle.relaxation.specs.ByLeft.{Lists}
use Rattle.relaxation.specs.declared.by_left.ByLeft.{ByLeft}
use Rattle.plans.specs.Marks.{Mark}
use Rattle.plans.specs.Rows.{Fit, Least}
use Rattle.books.specs.Calls.{Cutting}
use Rattle.plans.specs.States.{State}
use Rattle.plans.specs.Plans.{counts}
use Rattle.plans.specs.Soundness.{Restores, Settled, Sound}
use Rattle.network.proofs.Shortening.{all_front}
use Rattle.plans.proofs.Least.{least_same}

module _ {X : Type 0} {k : Kind} {means : X → Exact k} {book : Meaning} {n : ℕ} {times : List X} {index : ByLeft} {marks : List (Mark X)} where
  -- the bounds of today can be restored
  restores_today : (noted : List X) → ((p : ℕ) → p < n → time_of_point k means noted p ≡ time_of_point k means times p) → Settled k means book n times index marks
      → Restores k means book n (record { added = length book.added; times = noted })
  restores_today noted same s = record {
    added = omega arith;
    least = rw (take_all (length book.added) book.added (omega arith)) (least_same n (bounds_of book) s.some s.fit same s.least);
  }

  -- a mark more, of today's bounds and times
  settled_marked : (noted : List X) → ((p : ℕ) → p < n → time_of_point k means noted p ≡ time_of_point k means times p) → Settled k means book n times index marks
      → Settled k means book n times index (marks ++ record { added = length book.added; times = noted } ∷ [])
  settled_marked noted eq s = record {
    some = s.some;
    few = s.few;
    fit = s.fit;
    least = s.least;
    listed = s.listed;
    restores = All-push (Restores k means book n) marks _ s.restores (restores_today noted eq s);
    rising = all_pairs_push (λ x y. x.added ≤ y.added) marks _ s.rising (λ i d h. (s.restores i d h).added);
  }

  pub sound_marked : {settled : Bool} {after : List (Mark X)} {added : ℕ} → settled ≡ true → length marks ≢ 8 → added ≡ length book.added
      → (noted : List X) × (after ≡ marks ++ record { added = added; times = noted } ∷ [])
      × ((p : ℕ) → p < n → time_of_point k means noted p ≡ time_of_point k means times p)
      → Sound k means book n settled times index marks → Sound k means book n settled times index after
  sound_marked {settled = settled} {added = added} on room e opened h =
      let noted = opened.0 in
      let same = opened.1 in
      record {
        marks_few = omega (arith, h.marks_few, ap length same, length-append marks (record { added = added; times = noted } ∷ []));
        unsettled = λ off. absurd (both_ways settled off on);
        settled_times = λ o. rw (same, e) (settled_marked noted opened.2 (h.settled_times o));
      }

-- the youngest mark is taken away
module _ {X : Type 0} {k : Kind} {means : X → Exact k} {book : Meaning} {n : ℕ} {times : List X} {index : ByLeft} {rest : List (Mark X)} (m : Mark X) where
  settled_popped : Settled k means book n times index (rest ++ m ∷ []) → Settled k means book n times index rest
  settled_popped s = record {
    some = s.some;
    few = s.few;
    fit = s.fit;
    least = s.least;
    listed = s.listed;
    restores = all_front (Restores k means book n) rest (m ∷ []) s.restores;
    rising = λ i j d l h. rw (get_or_append_left rest (m ∷ []) d i (omega arith), get_or_append_left rest (m ∷ []) d j h)
        at (s.rising i j d l (omega (arith, length-append rest (m ∷ []))));
  }

  pub sound_popped : {marks : List (Mark X)} {settled : Bool} → settled ≡ true → marks ≡ rest ++ m ∷ [] → Sound k means book n settled times index marks
      → Sound k means book n settled times index rest
  sound_popped {settled = settled} on e h = record {
    marks_few = omega (arith, h.marks_few, ap length e, length-append rest (m ∷ []));
    unsettled = λ off. absurd (both_ways settled off on);
    settled_times = λ o. settled_popped (subst (Settled k means book n times index) e (h.settled_times o));
  }

  -- and what it noted is restored
  settled_restored : (back : List X) (listing : ByLeft) → ((p : ℕ) → p < n → time_of_point k means back p ≡ time_of_point k means m.times p)
      → Lists listing (map (λ r. r.left) (bounds_of (cut_to book m.added)))
      → Settled k means book n times index (rest ++ m ∷ []) → Settled k means (cut_to book m.added) n back listing rest
  settled_restored back listing eq listed s =
      let youngest : Restores k means book n m =
      rw (get_or-append_seam rest m [] m) at (s.restores (length rest) m (omega (arith, length-append rest (m ∷ [])))) in
      let others = settled_popped s in
      let fit : All (Fit k n) (bounds_of (cut_to book m.added)) =
      rw (take-append-add book.fixed book.added m.added) at (All-take (Fit k n) (length book.fixed + m.added) (bounds_of book) s.fit) in
      record {
        some = s.some;
        few = s.few;
        fit = fit;
        least = least_same n (bounds_of (cut_to book m.added)) s.some fit eq youngest.least;
        listed = listed;
        restores = λ i d h.
            let at : Restores k means book n (get_or rest i d) = others.restores i d h in
            let under : (get_or rest i d).added ≤ m.added =
            rw (get_or_append_left rest (m ∷ []) d i h, get_or-append_seam rest m [] d)
            at (s.rising i (length rest) d h (omega (arith, length-append rest (m ∷ [])))) in
            record {
              added = omega (arith, length-take-le m.added book.added youngest.added);
              least = rw (take-take (get_or rest i d).added m.added book.added under) at.least;
            };
        rising = others.rising;
      }

  pub sound_restored : {marks : List (Mark X)} {settled : Bool} {after : Meaning} (back : List X) (listing : ByLeft) → settled ≡ true
      → ((p : ℕ) → p < n → time_of_point k means back p ≡ time_of_point k means m.times p) → marks ≡ rest ++ m ∷ []
      → after ≡ cut_to book m.added → Lists listing (map (λ r. r.left) (bounds_of (cut_to book m.added)))
      → Sound k means book n settled times index marks → Sound k means after n settled back listing rest
  sound_restored {settled = settled} {after = after} back listing on eq e same listed h =
      subst (λ b. Sound k means b n settled back listing rest) (sym same) (record {
        marks_few = (sound_popped on e h).marks_few;
        unsettled = (sound_popped on e h).unsettled;
        settled_times = λ o. settled_restored back listing eq listed (subst (Settled k means book n times index) e (h.settled_times o));
      })

-- the youngest mark is the one at the present depth: its count, and the counts of the others
module _ {X : Type 0} {marks : List (Mark X)} (rest : List (Mark X)) (m : Mark X) (e : marks ≡ rest ++ m ∷ []) (d : ℕ)
    (present : d ≡ length (counts marks)) where
  depth_is : d - 1 ≡ length (counts rest)
  depth_is = omega (arith, present, ap length e, length-map marks (λ x. x.added), length-map rest (λ x. x.added), length-append rest (m ∷ []))

  counts_split : counts marks ≡ counts rest ++ m.added ∷ []
  counts_split = ap counts e ∙ map-append (λ x. x.added) rest (m ∷ [])

  pub noted_youngest : slice_index (counts marks) (d - 1) ≡ m.added
  noted_youngest = rw (depth_is, counts_split) (get_or-append_seam (counts rest) m.added [] 0)

  pub counts_left : counts rest ≡ take (d - 1) (counts marks)
  counts_left = rw (depth_is, counts_split) (sym (take-append_seam (counts rest) (m.added ∷ [])))

-- a cut to no more than the added bounds is a yes
pub cut_is : {S : Type 0} (meaning : S → Meaning) (cuts : S → ℕ → S → Type 0) {before after : S} {c : ℕ} (r : Bool) → Cutting meaning cuts before c after r
    → c ≤ length (meaning before).added → Cutting meaning cuts before c after true
cut_is meaning cuts true h few = h
cut_is meaning cuts false h few = absurd (omega (arith, h.0, few))

-- the youngest mark of a sound plan noted no more than the added bounds
pub youngest_added : {X : Type 0} {k : Kind} {means : X → Exact k} {book : Meaning} {n : ℕ} {settled : Bool} {times : List X} {index : ByLeft} {marks : List (Mark X)}
    (rest : List (Mark X)) (m : Mark X) → marks ≡ rest ++ m ∷ [] → settled ≡ true → Sound k means book n settled times index marks → m.added ≤ length book.added
youngest_added {k = k} {means = means} {book = book} {n = n} {marks = marks} rest m e on h =
    (rw (e, get_or-append_seam rest m [] m) at ((h.settled_times on).restores (length rest) m (omega (arith, ap length e, length-append rest (m ∷ []))))).added

-- plans with one book and the same counts are one
pub state_same : {s t : State} → s.book ≡ t.book → s.points ≡ t.points → s.number ≡ t.number → s.settled ≡ t.settled → s.marks ≡ t.marks → s ≡ t
state_same a b c d e = λ i. record { book = a i; points = b i; number = c i; settled = d i; marks = e i }

-- open marks have a youngest
pub youngest_of : {X : Type 0} (marks : List (Mark X)) → 0 < length marks → (before : List (Mark X)) × (m : Mark X) × (marks ≡ before ++ m ∷ [])
youngest_of [] some = absurd (omega arith)
youngest_of (x ∷ []) some = ([], x, refl)
youngest_of {X} (x ∷ (y ∷ ys)) some = let r = youngest_of (y ∷ ys) (omega arith) in (x ∷ r.0, r.1, ap {B = List (Mark X)} (λ l. x ∷ l) r.2)
