-- Turns: the points of a line are taken up in passes, and after as many passes as there are points none waits. Assumes nothing.
use Rattle.std.proofs.Common.{◌≡◌, ℕ, suc, ◌+◌, ◌*◌, ◌-◌, ◌<◌, ◌≤◌, List, [], ◌∷◌, ◌++◌, length}
use Rattle.std.proofs.Common.{sym, refl, ap, ◌∙◌, subst, inl, inr, ⊎_elim, append-nil, append_assoc, length-append, arith}
use Rattle.std.specs.List.{All, Contains}
use Rattle.std.proofs.lemmas.List.Elements.{All-nil, All-cons, All-head, All-tail, All-weaker, All-contains}
use Rattle.std.proofs.Math.Nat.{lt_of_not-le}
use Rattle.bounds.specs.declared.row.Row.{Row}
use Rattle.delays.specs.Kind.{Kind, Exact, Lawful}
use Rattle.network.specs.Bounds.{ExactBound, Bounds}
use Rattle.network.specs.Walks.{Walk, stops, Apart}
use Rattle.network.specs.Earliest.{Earliest}
use Rattle.network.proofs.Counting.{apart_head, apart_tail}
use Rattle.network.proofs.Shortening.{earliest_one}
use Rattle.relaxation.specs.declared.star.Star.{Star}
use Rattle.relaxation.specs.Line.{Queue}
use Rattle.relaxation.specs.Spreads.{Posed, Begun, Passing}
use Rattle.relaxation.specs.Stars.{Leads}
use Rattle.relaxation.specs.Workings.{all, posted_rows, MayBeTaken, Working, Taken, Ready, Ended}
use Rattle.relaxation.proofs.Passes.{passed_none, pass_begins, pass_goes, pass_ends, none_waits}
use Rattle.relaxation.proofs.Stars.{question_each}

-- a walk comes to its last point
stops_last : {k : Kind} (row : Bounds k) (p q : ℕ) → Walk p row q → Contains (stops p row) q
stops_last [] p q w = (0, omega arith, w)
stops_last (b ∷ bs) p q w = let last = stops_last bs b.right q w.1 in (suc last.0, omega (arith, last.1), last.2)

module _ {k : Kind} {n : ℕ} {met all : Bounds k} {root : ℕ} {start : ℕ → Exact k} (posed : Posed k n met all root start) where
  -- a path to the root leaves it nowhere
  path_met : (row : Bounds k) (p : ℕ) → Walk p row root → Apart (stops p row) → All (Contains all) row → All (Contains met) row
  path_met [] p w apart held = All-nil (Contains met)
  path_met (b ∷ bs) p w apart held =
      let rest = stops b.right bs in
      let off = All-contains (λ q. ¬ (p ≡ q)) rest root (apart_head p rest apart) (stops_last bs b.right root w.1) in
      All-cons (Contains met) b bs (posed.others b (All-head (Contains all) b bs held) (λ e. off (sym w.0 ∙ e)))
      (path_met bs b.right w.1 (apart_tail p rest apart) (All-tail (Contains all) b bs held))

  -- so the time of the root is the earliest over all bounds too
  root_earliest : Earliest k all root (start root)
  root_earliest =
      let e = posed.earliest root posed.some in
      record {
        row = e.row;
        path = record { walk = e.path.walk; apart = e.path.apart; held = All-weaker (Contains met) (Contains all) posed.among e.row e.path.held };
        value = e.value;
        least = λ row o. e.least row (record { walk = o.walk; apart = o.apart; held = path_met row 0 o.walk o.apart o.held });
      }

-- so no spreading moves the root, over whatever bounds it is posed
root_still : {k : Kind} (laws : Lawful k) {n : ℕ} {rows : List Row} {star : Star} {time after : ℕ → Exact k} {over over_after line line_after : List ℕ}
    → Working k n rows star time over line → Working k n rows star after over_after line_after → time star.root ≡ after star.root
root_still {k} laws {n} {rows} {star} w v =
    let same = earliest_one laws (all k n rows star) star.root _ _ (root_earliest w.posed) (root_earliest v.posed) in
    w.spread.still star.root w.spread.root_still ∙ (same ∙ sym (v.spread.still star.root v.spread.root_still))

module _ (k : Kind) (n : ℕ) (rows : List Row) (star : Star) where
  -- A pass over points that wait, of which `rest` are still to be taken up in it. Each pass takes at most 128 points off the line.
  pub record Turn (time : ℕ → Exact k) (line : Queue) (rest : List ℕ) : Type 0 where
    pub pass : ℕ
    pub begin : ℕ → Exact k
    pub later : List ℕ
    pub split : line.waiting ≡ rest ++ later
    pub low : pass < n
    pub count : line.taken ≤ pass * 128 + (128 - length rest)
    pub still : time star.root ≡ begin star.root
    pub passing : Passing k n (all k n rows star) star.root (Leads k (posted_rows star.posted)) pass begin time rest later

  -- a spreading that goes on by passes
  pub record Turning (time : ℕ → Exact k) (over : List ℕ) (line : Queue) : Type 0 where
    pub working : Working k n rows star time over line.waiting
    pub rest : List ℕ
    pub turn : Turn time line rest

module _ {k : Kind} (laws : Lawful k) {n : ℕ} {rows : List Row} {star : Star} where
  -- the first pass
  pub turning_begins : (time : ℕ → Exact k) (over : List ℕ) (line : Queue) → Ready k n rows star time over line.waiting → line.taken ≡ 0
      → Turning k n rows star time over line
  turning_begins time over line ready none = record {
    working = ready.working;
    rest = line.waiting;
    turn = record {
      pass = 0;
      begin = time;
      later = [];
      split = sym (append-nil line.waiting);
      low = omega (arith, ready.working.posed.some);
      count = omega (arith, none);
      still = refl;
      passing = pass_begins laws (passed_none laws time line.waiting ready.quiet);
    };
  }

  module _ {time : ℕ → Exact k} {over : List ℕ} {line : Queue} (t : Turning k n rows star time over line) where
    -- at most 128 passes take at most 128 points
    pub turning_few : line.taken ≤ 16384
    turning_few = omega (arith, t.turn.count, t.turn.low, t.working.posed.few)

    -- where no point waits, each bound is met
    pub turning_ends : line.waiting ≡ [] → Ended k n rows star time over
    turning_ends none = record {
      working = subst (Working k n rows star time over) none t.working;
      met = λ b has. t.turn.passing.quiet b has (λ waits. absurd (omega (arith, waits.1, ap length t.turn.split, ap length none)));
    }

    -- the left points of all bounds are below the limit
    left_low : (b : ExactBound k) → Contains (all k n rows star) b → b.left < star.limit
    left_low =
        let w = t.working in
        let posted = posted_rows star.posted in
        let of_posted = λ (r : Row) (has : Contains posted r). All-contains (λ r. r.left ≡ star.root) posted r w.leaves has in
        question_each k n star.limit rows posted (λ b. b.left < star.limit) (λ i r at low. low)
        (λ r has. omega (arith, of_posted r has, w.limit)) (λ p low. omega (arith, w.limit))

    begun : (q : ℕ) → Contains line.waiting q → Begun k n (all k n rows star) star.root (Leads k (posted_rows star.posted)) t.working.risen q
    begun q has =
        let may = All-contains (MayBeTaken k n rows star t.working.risen) line.waiting q t.working.begun has in
        ⊎_elim (λ e. inl e.0) (λ up. inr up) may.begun

    module _ (u : ℕ) (waiting : List ℕ) (next : line.waiting ≡ u ∷ waiting) where
      -- Where a pass is over the next one begins. Its first point waits, so fewer are over than there are points.
      taken_next : (rest : List ℕ) → Turn k n rows star time line rest → (more : List ℕ) × Turn k n rows star time line (u ∷ more)
      taken_next [] p =
          let passed = pass_ends laws p.still p.passing in
          let turn : Turn k n rows star time line line.waiting = record {
            pass = p.pass + 1;
            begin = time;
            later = [];
            split = sym (append-nil line.waiting);
            low = lt_of_not-le (λ enough. none_waits laws t.working.posed t.working.spread (λ q has. begun q (rw p.split has)) passed enough u
                (rw (← p.split, next) (0, omega arith, refl)));
            count = omega (arith, p.count);
            still = refl;
            passing = rw p.split (pass_begins laws passed);
          } in
          (waiting, subst (Turn k n rows star time line) next turn)
      taken_next (q ∷ more) p =
          let same : q ≡ u = cc (p.split) in
          (more, subst (λ (q : ℕ). Turn k n rows star time line (q ∷ more)) same p)

      module _ (short : length line.waiting ≤ 128) where
        -- so fewer than 128 * 128 points were taken off
        pub turning_falls : line.taken < 16384
        turning_falls =
            let h = taken_next t.rest t.turn in
            let p = h.1 in
            omega (arith, p.count, p.low, t.working.posed.few, short, ap length p.split, length-append (u ∷ h.0) p.later)

        -- one point is taken up
        pub turning_goes : {after : ℕ → Exact k} {over_after : List ℕ} (line_after : Queue) → line_after.taken ≡ line.taken + 1
            → Taken k n rows star u time after over_after waiting line_after.waiting → Turning k n rows star after over_after line_after
        turning_goes {after = after} {over_after = over_after} line_after taken up = record {
          working = up.working;
          rest = h.0;
          turn = record {
            pass = p.pass;
            begin = p.begin;
            later = p.later ++ up.more;
            split = up.joined ∙ (ap {B = List ℕ} (λ l. l ++ up.more) others ∙ append_assoc h.0 p.later up.more);
            low = p.low;
            count = omega (arith, p.count, taken, short, ap length p.split, length-append (u ∷ h.0) p.later);
            still = sym (root_still laws t.working up.working) ∙ p.still;
            passing = pass_goes laws p.passing (rw others at up.taken) left_low;
          };
        }
          where
            h : (more : List ℕ) × Turn k n rows star time line (u ∷ more)
            h = taken_next t.rest t.turn

            p : Turn k n rows star time line (u ∷ h.0)
            p = h.1

            others : waiting ≡ h.0 ++ p.later
            others = let e = sym next ∙ p.split in cc
