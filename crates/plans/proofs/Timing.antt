-- A settled plan has earliest times, and so has each cut to which an open mark can bring it. Assumes nothing.
use Rattle.std.proofs.Common.{◌≡◌, ℕ, zero, suc, ◌-◌, ◌<◌, ◌≤◌, true, List, [], ◌∷◌, ◌++◌, length, get_or, take, arith}
use mathlib.Core.Path.{subst⁻¹}
use Rattle.std.proofs.Math.Seq.{take-length}
use Rattle.std.proofs.lemmas.List.{take-append-le, append_assoc, length-append, length-take, take-take}
use Rattle.std.specs.List.{All}
use Rattle.std.proofs.lemmas.List.Elements.{All-nil, All-push, All-take, All-get_or}
use Rattle.std.proofs.lemmas.Bool.{both_ways}
use Rattle.bounds.specs.declared.row.Row.{Row}
use Rattle.delays.specs.Kind.{Kind, Exact}
use Rattle.plans.specs.Rows.{Times}
use Rattle.plans.specs.Answers.{Call, Answer}
use Rattle.plans.specs.States.{State, rows, depth}
use Rattle.plans.specs.Runs.{Said, Run, rests, goes, Opened}
use Rattle.plans.proofs.Changing.{Change, same, settles, posts, marks, keeps, backs, change}

-- the bounds in force have earliest times
abbrev pub Timed : Kind → ℕ → List Row → Type 0
Timed k n bounds = (x : ℕ → Exact k) × Times k n bounds x

-- each mark noted a cut that has earliest times, and no later mark noted less
abbrev Marked : Kind → ℕ → List Row → List Row → List ℕ → Type 0
Marked k n fixed added [] = Unit {0}
Marked k n fixed added (m ∷ ms) = (m ≤ length added) × Timed k n (fixed ++ take m added) × All (λ j. m ≤ j) ms × Marked k n fixed added ms

-- a settled plan has earliest times, and its marks noted such cuts
pub record HasTimes (k : Kind) (s : State) : Type 0 where
  pub times : s.settled ≡ true → Timed k s.points (rows s)
  pub marked : Marked k s.points s.book.fixed s.book.added s.marks

module _ (k : Kind) (n : ℕ) (fixed : List Row) where
  -- a bound more leaves the cuts as they were
  marked_post : (added : List Row) (b : Row) (ms : List ℕ) → Marked k n fixed added ms → Marked k n fixed (added ++ b ∷ []) ms
  marked_post added b [] h = tt
  marked_post added b (m ∷ ms) h =
      let in' : m ≤ length added = h.0 in (
        omega (arith, length-append added (b ∷ [])),
        subst⁻¹ (λ (l : List Row). Timed k n (fixed ++ l)) (take-append-le m added (b ∷ []) in') h.1,
        h.2,
        marked_post added b ms h.3,
      )

  -- a mark more notes what has earliest times now
  marked_mark : (added : List Row) (ms : List ℕ) → Timed k n (fixed ++ added) → Marked k n fixed added ms → Marked k n fixed added (ms ++ length added ∷ [])
  marked_mark added [] x h =
      (omega arith, subst⁻¹ (λ (l : List Row). Timed k n (fixed ++ l)) (take-length added) x, All-nil (λ j. length added ≤ j), tt)
  marked_mark added (m ∷ ms) x h = (h.0, h.1, All-push (λ j. m ≤ j) ms (length added) h.2 h.0, marked_mark added ms x h.3)

  -- fewer marks
  marked_close : (added : List Row) (ms : List ℕ) (i : ℕ) → Marked k n fixed added ms → Marked k n fixed added (take i ms)
  marked_close added ms zero h = tt
  marked_close added [] (suc i) h = tt
  marked_close added (m ∷ ms) (suc i) h = (h.0, h.1, All-take (λ j. m ≤ j) i ms h.2, marked_close added ms i h.3)

  -- a cut to a mark leaves the cuts of the marks before it
  marked_cut : (added : List Row) (ms : List ℕ) (i : ℕ) → i < length ms → Marked k n fixed added ms → Marked k n fixed (take (get_or ms i 0) added) (take i ms)
  marked_cut added ms zero l h = tt
  marked_cut added [] (suc i) l h = tt
  marked_cut added (m ∷ ms) (suc i) l h =
      let in' : m ≤ length added = h.0 in
      let up : m ≤ get_or ms i 0 = All-get_or (λ j. m ≤ j) ms i 0 (omega arith) h.2 in (
        omega (arith, length-take (get_or ms i 0) added),
        subst⁻¹ (λ (l : List Row). Timed k n (fixed ++ l)) (take-take m (get_or ms i 0) added up) h.1,
        All-take (λ j. m ≤ j) i ms h.2,
        marked_cut added ms i (omega arith) h.3,
      )

  -- a cut to a mark has earliest times
  timed_cut : (added : List Row) (ms : List ℕ) (i : ℕ) → i < length ms → Marked k n fixed added ms → Timed k n (fixed ++ take (get_or ms i 0) added)
  timed_cut added [] i l h = absurd (omega arith)
  timed_cut added (m ∷ ms) zero l h = h.1
  timed_cut added (m ∷ ms) (suc i) l h = timed_cut added ms i (omega arith) h.3

module _ {k : Kind} where
  -- a call keeps it so
  has_times_change : {s t : State} {c : Call} {a : Answer k} → Change k s c a t → HasTimes k s → HasTimes k t
  has_times_change (same q) h = h
  has_times_change (settles x e f) h = record { times = λ _. (x, e); marked = h.marked }
  has_times_change {s} (posts {b = b} x e f g) h = record {
    times = λ _. (x, rw (append_assoc s.book.fixed s.book.added (b ∷ [])) at e);
    marked = marked_post k s.points s.book.fixed s.book.added b s.marks h.marked;
  }
  has_times_change {s} (marks f) h = record {
    times = h.times;
    marked = marked_mark k s.points s.book.fixed s.book.added s.marks (h.times f) h.marked;
  }
  has_times_change {s} (keeps {d = d} e l m f) h = record {
    times = h.times;
    marked = marked_close k s.points s.book.fixed s.book.added s.marks (d - 1) h.marked;
  }
  has_times_change {s} (backs {d = d} e l m f) h = let in' : d - 1 < depth s = omega arith in record {
    times = λ _. timed_cut k s.points s.book.fixed s.book.added s.marks (d - 1) in' h.marked;
    marked = marked_cut k s.points s.book.fixed s.book.added s.marks (d - 1) in' h.marked;
  }

  pub has_times_opened : (s : State) → Opened s → HasTimes k s
  has_times_opened s o = record {
    times = λ z. absurd (both_ways s.settled o.unsettled z);
    marked = subst⁻¹ (Marked k s.points s.book.fixed s.book.added) o.unmarked tt;
  }

  -- and so does every run
  pub has_times_run : {s t : State} {xs : List (Said k)} → Run k s xs t → HasTimes k s → HasTimes k t
  has_times_run rests h = h
  has_times_run (goes {t = v} {c = c} {a = a} p r) h = has_times_run r (has_times_change (change c a v p) h)

  -- where a run from an opened plan leads to a settled one, that has earliest times
  pub settled_timed : {s t : State} {xs : List (Said k)} → Opened s → Run k s xs t → t.settled ≡ true → Timed k t.points (rows t)
  settled_timed {s} o r = (has_times_run r (has_times_opened s o)).times
