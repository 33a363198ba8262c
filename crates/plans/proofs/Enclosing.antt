-- What a plan keeps of an open mark, while calls follow, and that a back to the mark brings the plan back. Assumes nothing.
use Rattle.std.proofs.Common.{◌≡◌, ℕ, ◌+◌, ◌-◌, ◌<◌, ◌≤◌, true, ◌⊎◌, List, [], ◌∷◌, ◌++◌, length, get_or, take, sym, refl, ap, ◌∙◌, inl, inr, arith}
use Rattle.std.proofs.Math.Seq.{take-length, take-append_seam, get_or-append_seam}
use Rattle.std.proofs.lemmas.List.{take-append-le, get_or_append_left, get_or-take, length-take-le, length-append, length-take, take-take}
use Rattle.std.proofs.lemmas.List.Elements.{All-tail}
use Rattle.std.proofs.lemmas.Bool.{both_ways, cases_lt}
use Rattle.bounds.specs.declared.row.Row.{Row}
use Rattle.delays.specs.Kind.{Kind}
use Rattle.books.specs.Meaning.{Meaning, with_bounds, cut_to}
use Rattle.plans.specs.Answers.{Call, Answer}
use Rattle.plans.specs.States.{State, depth, marking, closing, cutting, noted}
use Rattle.plans.specs.Runs.{Said, Run, rests, goes, OpensNone, Unmarked}
use Rattle.plans.proofs.Parting.{low_run}
use Rattle.plans.proofs.Changing.{Change, same, settles, posts, marks, keeps, backs, change}

-- from place n on, each of the counts is at least low
abbrev High : ℕ → ℕ → List ℕ → Type 0
High low n counts = (i : ℕ) → n ≤ i → i < length counts → low ≤ get_or counts i 0

-- one count more
high_push : (low n : ℕ) (counts : List ℕ) (x : ℕ) → High low n counts → low ≤ x → High low n (counts ++ x ∷ [])
high_push low n counts x h up i l m = go (cases_lt i (length counts))
  where
    go : (i < length counts) ⊎ (length counts ≤ i) → low ≤ get_or (counts ++ x ∷ []) i 0
    go (inl b) = rw (get_or_append_left counts (x ∷ []) 0 i b) (h i l b)
    go (inr b) = let e : i ≡ length counts = omega (arith, length-append counts (x ∷ [])) in rw (e, get_or-append_seam counts x [] 0) up

-- all that stood in the old book stands first in the new one
record BookKept (old new : Meaning) : Type 0 where
  fixed_is : new.fixed ≡ old.fixed
  long : length old.added ≤ length new.added
  added_is : take (length old.added) new.added ≡ old.added
  room : new.free + length new.added ≡ old.free + length old.added

-- of the marks, the old ones stand first, then one that noted this count, and then those that noted that or more
record MarksKept (count : ℕ) (old new : List ℕ) : Type 0 where
  deep : length old < length new
  marks_is : take (length old) new ≡ old
  here : get_or new (length old) 0 ≡ count
  high : High count (length old) new

-- the plan u, with the mark still open that was opened at the plan s
pub record Enclosed (s u : State) : Type 0 where
  points_is : u.points ≡ s.points
  number_is : u.number ≡ s.number
  settled_is : u.settled ≡ true
  book : BookKept s.book u.book
  marks : MarksKept (length s.book.added) s.marks u.marks

module _ {old new : Meaning} (i : BookKept old new) where
  -- a bound more
  book_added : (b : Row) → (new.free ≡ 0 → ⊥) → BookKept old (with_bounds new (b ∷ []))
  book_added b some = let more = length-append new.added (b ∷ []) in let long = i.long in record {
    fixed_is = i.fixed_is;
    long = omega (arith, more);
    added_is = take-append-le (length old.added) new.added (b ∷ []) long ∙ i.added_is;
    room = omega (arith, more, i.room);
  }

  -- a cut that leaves what stood in the old book
  book_cut : (m : ℕ) → length old.added ≤ m → BookKept old (cut_to new m)
  book_cut m h = let left = length-take m new.added in record {
    fixed_is = i.fixed_is;
    long = omega (arith, left, i.long);
    added_is = take-take (length old.added) m new.added h ∙ i.added_is;
    room = omega (arith, left, i.room);
  }

module _ {count : ℕ} {old new : List ℕ} (i : MarksKept count old new) where
  -- a mark more
  marks_more : (x : ℕ) → count ≤ x → MarksKept count old (new ++ x ∷ [])
  marks_more x up = let deep = i.deep in record {
    deep = omega (arith, length-append new (x ∷ []));
    marks_is = take-append-le (length old) new (x ∷ []) (omega arith) ∙ i.marks_is;
    here = get_or_append_left new (x ∷ []) 0 (length old) deep ∙ i.here;
    high = high_push count (length old) new x i.high up;
  }

  -- a mark opened since is closed
  marks_fewer : (m : ℕ) → length old < m → m ≤ length new → MarksKept count old (take m new)
  marks_fewer m h l = let left : length (take m new) ≡ m = length-take-le m new l in record {
    deep = omega arith;
    marks_is = take-take (length old) m new (omega arith) ∙ i.marks_is;
    here = get_or-take m new (length old) 0 h ∙ i.here;
    high = λ j up low. rw (get_or-take m new j 0 (omega arith)) (i.high j up (omega arith));
  }

-- a mark that was just opened
pub enclosed_first : {s : State} → s.settled ≡ true → Enclosed s (marking s)
enclosed_first {s} f = let count = length s.book.added in record {
  points_is = refl;
  number_is = refl;
  settled_is = f;
  book = record { fixed_is = refl; long = omega arith; added_is = take-length s.book.added; room = refl };
  marks = record {
    deep = omega (arith, length-append s.marks (count ∷ []));
    marks_is = take-append_seam s.marks (count ∷ []);
    here = get_or-append_seam s.marks count [] 0;
    high = high_push count (depth s) s.marks count (λ i l m. absurd (omega arith)) (omega arith);
  };
}

-- a change of the book and of the marks alone
enclosed_same : {s u : State} (book : Meaning) (counts : List ℕ) → Enclosed s u → BookKept s.book book → MarksKept (length s.book.added) s.marks counts
    → Enclosed s (record { book = book; points = u.points; number = u.number; settled = u.settled; marks = counts })
enclosed_same book counts i b m = record { points_is = i.points_is; number_is = i.number_is; settled_is = i.settled_is; book = b; marks = m }

-- the back to the mark itself
pub back_restores : {s u : State} → Enclosed s u → s.settled ≡ true → (d : ℕ) → d ≡ depth s + 1 → cutting (noted u d) (closing d u) ≡ s
back_restores {s} {u} i f d h =
    let e : d - 1 ≡ depth s = omega arith in
    let at : noted u d ≡ length s.book.added = ap (λ (j : ℕ). get_or u.marks j 0) e ∙ i.marks.here in
    let free : u.book.free + (length u.book.added - noted u d) ≡ s.book.free = omega (arith, i.book.room, i.book.long) in
    λ j. record {
      book = record { fixed = i.book.fixed_is j; added = (ap (λ (m : ℕ). take m u.book.added) at ∙ i.book.added_is) j; free = free j };
      points = i.points_is j;
      number = i.number_is j;
      settled = (i.settled_is ∙ sym f) j;
      marks = (ap (λ (m : ℕ). take m u.marks) e ∙ i.marks.marks_is) j;
    }

module _ {k : Kind} {s : State} where
  -- a call leaves the mark open, or closes it
  enclosed_change : {u v : State} {c : Call} {a : Answer k} → Change k u c a v → Enclosed s u → Enclosed s v ⊎ (depth v < depth s + 1)
  enclosed_change (same q) i = inl i
  enclosed_change {u} (settles x e f) i = absurd (both_ways u.settled f i.settled_is)
  enclosed_change {u} (posts {b = b} x e f g) i = inl (enclosed_same _ _ i (book_added i.book b g) i.marks)
  enclosed_change {u} (marks f) i = inl (enclosed_same _ _ i i.book (marks_more i.marks (length u.book.added) i.book.long))
  enclosed_change {u} (keeps {d = d} e l m f) i = go (cases_lt (depth s + 1) d)
    where
      go : (depth s + 1 < d) ⊎ (d ≤ depth s + 1) → Enclosed s (closing d u) ⊎ (depth (closing d u) < depth s + 1)
      go (inl h) = inl (enclosed_same _ _ i i.book (marks_fewer i.marks (d - 1) (omega arith) (omega arith)))
      go (inr h) = inr (omega (arith, length-take (d - 1) u.marks))
  enclosed_change {u} (backs {d = d} e l m f) i = go (cases_lt (depth s + 1) d)
    where
      go : (depth s + 1 < d) ⊎ (d ≤ depth s + 1) → Enclosed s (cutting (noted u d) (closing d u)) ⊎ (depth (closing d u) < depth s + 1)
      go (inl h) = inl (enclosed_same _ _ i (book_cut i.book (noted u d) (i.marks.high (d - 1) (omega arith) (omega arith)))
          (marks_fewer i.marks (d - 1) (omega arith) (omega arith)))
      go (inr h) = inr (omega (arith, length-take (d - 1) u.marks))

  -- calls that open no mark at its depth keep the mark open, or close it for good
  pub enclosed_run : {u v : State} (xs : List (Said k)) → Run k u xs v → Unmarked (depth s + 1) xs → Enclosed s u ⊎ (depth u < depth s + 1)
      → Enclosed s v ⊎ (depth v < depth s + 1)
  enclosed_run [] rests n h = h
  enclosed_run (x ∷ xs) (goes {t = v} {c = c} {a = a} p r) n (inl i) =
      enclosed_run xs r (All-tail (OpensNone (depth s + 1)) x xs n) (enclosed_change (change c a v p) i)
  enclosed_run (x ∷ xs) r n (inr l) = inr (low_run (depth s + 1) (x ∷ xs) r n l)
