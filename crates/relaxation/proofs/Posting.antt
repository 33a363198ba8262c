-- A bound is posted to a book with known times: where the spreading from it begins, and what comes of it. Assumes nothing.
use Rattle.std.proofs.Common.{◌≡◌, ℕ, ◌*◌, ◌<◌, ◌≤◌, Bool, true, false, eqb, List, [], ◌∷◌, ◌++◌, map, length, get_or, take, Some, refl, sym, ap, ◌∙◌}
use Rattle.std.proofs.Common.{subst, inl, inr, ⊎_elim, arith}
use Rattle.std.specs.Prelude.{slice_index, Decides}
use Rattle.std.specs.List.{All, Contains}
use Rattle.std.proofs.lemmas.Bool.{cases_Bool, cond-true, eq-eqb}
use Rattle.std.proofs.lemmas.List.{get_or-take, get_or_append_left, map-append, take-map, length-map, length-take-le}
use Rattle.std.proofs.lemmas.List.Elements.{All-nil, All-cons, All-contains, All-contains_itself, All-weaker, Contains-append_left, Contains-append_cases}
use Rattle.bounds.specs.declared.row.Row.{Row}
use Rattle.bounds.specs.Range.{Sound}
use Rattle.delays.specs.Kind.{Kind, Exact, Lawful}
use Rattle.delays.proofs.TheoryLaws.{theory}
use Rattle.network.specs.Bounds.{ExactBound, Bounds, floor_of}
use Rattle.network.specs.Assignments.{Lt, Meets, Solution}
use Rattle.network.specs.Edges.{time_of_point}
use Rattle.network.specs.Rounds.{carry}
use Rattle.network.proofs.InForce.{floor_held}
use Rattle.network.proofs.Orders.{not_both, sum_orders}
use Rattle.network.proofs.Shortening.{earliest_reached}
use Rattle.relaxation.specs.declared.star.Star.{Star}
use Rattle.relaxation.specs.Rows.{exact_of, force, Fit, Covered, Times, Least}
use Rattle.relaxation.specs.Spreads.{Posed, asked, Spread, Raises}
use Rattle.relaxation.specs.Stars.{in_question, numbered_at, over_of, Leads}
use Rattle.relaxation.specs.Workings.{MayBeTaken, Stopped, Ready, Ended, Relaxed, Rises}
use Rattle.relaxation.proofs.Ends.{ends, reached_among}
use Rattle.relaxation.proofs.Members.{only_one}
use Rattle.relaxation.proofs.Posing.{meets_asked, post_posed, post_quiet, post_times}
use Rattle.relaxation.proofs.Relaxing.{over_kept}
use Rattle.relaxation.proofs.Rising.{also, also_itself, begin, rise, asks_near}
use Rattle.relaxation.proofs.Rows.{least_times}
use Rattle.relaxation.proofs.Settling.{times_same, alone}
use Rattle.relaxation.proofs.Stars.{force_holds, force_held, question_posted}
use Rattle.relaxation.proofs.Writing.{time_read}

-- b is posted to a book with these rows, over n points with the times t
pub record Posts (k : Kind) (n : ℕ) (rows : List Row) (b : Row) (t : ℕ → Exact k) : Type 0 where
  pub some : 0 < n
  pub few : n ≤ 128
  pub fit : All (Fit k n) rows
  pub sound : All Sound rows
  pub fits : Fit k n b
  pub sound_posted : Sound b
  pub times : Times k n rows t

-- a program compares what the posted bound asks with the time that its right point has
pub record Compared (k : Kind) (b : Row) (t : ℕ → Exact k) (x : Exact k) (r : Bool) : Type 0 where
  pub asks : x ≡ asked k t (exact_of k b)
  pub exceeds : Decides r (Lt k (t b.right) (asked k t (exact_of k b)))

-- equal times compare as these do
pub compared_copied : {k : Kind} {n : ℕ} {b : Row} {t : ℕ → Exact k} {x : Exact k} {r : Bool} (u : ℕ → Exact k) → Fit k n b → Compared k b t x r
    → ((p : ℕ) → p < n → u p ≡ t p) → Compared k b u x r
compared_copied {k} {n} {b} {t} {x} {r} u fits c same =
    let asks = ap (λ y. carry k y (exact_of k b).delay) (sym (same b.left fits.left)) in
    let exceeds = subst (λ y. Decides r (Lt k y (asked k t (exact_of k b)))) (sym (same b.right fits.right)) c.exceeds in
    record { asks = c.asks ∙ asks; exceeds = subst (λ y. Decides r (Lt k (u b.right) y)) asks exceeds }

module _ {X : Type 0} (k : Kind) (means : X → Exact k) where
  -- by the times that it reads at the two points, and the opposite of the delay
  pub compared : (times : List X) (b : Row) (left right : ℕ) (from to change delay : X) (exceeds : Bool) → left ≡ b.left → right ≡ b.right
      → left < length times → right < length times → means change ≡ k.opposite (means delay) → means delay ≡ k.value b.t b.s
      → Decides exceeds (Lt k (means (get_or times right to)) (k.sum (means (get_or times left from)) (means change)))
      → Compared k b (time_of_point k means times) (k.sum (means (get_or times left from)) (means change)) exceeds
  compared times b left right from to change delay exceeds at_left at_right low_left low_right back value decides =
      record { asks = asks; exceeds = rw (asks, read right b.right to at_right low_right) at decides }
    where
      read : (p q : ℕ) (x : X) → p ≡ q → p < length times → means (get_or times p x) ≡ time_of_point k means times q
      read p q x same low = sym (time_read k means times p low x) ∙ ap (time_of_point k means times) same

      asks : k.sum (means (get_or times left from)) (means change) ≡ asked k (time_of_point k means times) (exact_of k b)
      asks = ap (λ x. k.sum x (means change)) (read left b.left from at_left low_left)
          ∙ ap (k.sum (time_of_point k means times b.left)) (back ∙ ap k.opposite value)

  -- a list that begins with the first n times of another gives the points below n their times
  pub times_copied : (n : ℕ) (copy rest times : List X) → copy ≡ take n times → n ≤ length times → (p : ℕ) → p < n
      → time_of_point k means (copy ++ rest) p ≡ time_of_point k means times p
  times_copied n copy rest times same few p small =
      let there : p < length (map means copy) = omega (arith, length-map copy means, ap length same, length-take-le n times few) in
      ap (λ ys. get_or ys p k.zero) (map-append means copy rest) ∙ (get_or_append_left (map means copy) (map means rest) k.zero p there
      ∙ (ap (λ xs. get_or (map means xs) p k.zero) same ∙ (ap (λ ys. get_or ys p k.zero) (sym (take-map means n times))
      ∙ get_or-take n (map means times) p k.zero small)))

-- what is spread from it
abbrev pub star_of : ℕ → Row → Star
star_of n b = record { root = b.left; limit = n; posted = Some b }

module _ {k : Kind} (laws : Lawful k) {n : ℕ} {rows : List Row} {b : Row} where
  -- least times are the earliest
  pub posts : {t : ℕ → Exact k} → 0 < n → n ≤ 128 → All (Fit k n) rows → All Sound rows → Fit k n b → Sound b → Least k n rows t
      → Posts k n rows b t
  posts {t} some few fit sound fits sound_b least = record {
    some = some;
    few = few;
    fit = fit;
    sound = sound;
    fits = fits;
    sound_posted = sound_b;
    times = least_times laws n rows t some fit least;
  }

  -- the times of the n points are copied
  pub posts_copied : {t : ℕ → Exact k} (u : ℕ → Exact k) → Posts k n rows b t → ((p : ℕ) → p < n → u p ≡ t p) → Posts k n rows b u
  posts_copied {t} u p same = record {
    some = p.some;
    few = p.few;
    fit = p.fit;
    sound = p.sound;
    fits = p.fits;
    sound_posted = p.sound_posted;
    times = times_same laws p.some rows p.fit t u same p.times;
  }

  module _ {t : ℕ → Exact k} (p : Posts k n rows b t) where
    abbrev posted : ExactBound k
    posted = exact_of k b

    abbrev after : List Row
    after = rows ++ b ∷ []

    -- what the times meet
    met_before : (e : ExactBound k) → Contains (force k n rows) e → Meets k t e
    met_before e has = All-contains (Meets k t) (force k n rows) e p.times.solution.meets has

    met_row : (r : Row) → Contains rows r → Meets k t (exact_of k r)
    met_row r has = met_before (exact_of k r) (force_holds k n rows r has)

    -- times that meet the posted bound too stay the earliest: more bounds bring no point before its old time
    pub post_met : (Lt k (t b.right) (asked k t posted) → ⊥) → Times k n after t
    post_met low = record {
      solution = solution;
      earliest = λ q small. earliest_reached laws (force k n after) t solution q
          (reached_among laws (force k n rows) (force k n after) among q (t q) (p.times.earliest q small));
    }
      where
        among : (e : ExactBound k) → Contains (force k n rows) e → Contains (force k n after) e
        among e has =
            ⊎_elim (λ r. subst (Contains (force k n after)) r.2 (force_holds k n after r.0 (Contains-append_left rows (b ∷ []) r.0 r.1)))
            (λ f. subst (Contains (force k n after)) f.2 (floor_held k n (map (exact_of k) after) f.0 f.1)) (force_held k n rows e has)

        met_posted : Meets k t posted
        met_posted =
            ⊎_elim ((theory laws).move_left (t b.left) (t b.right) posted.delay) (λ above. absurd (low above))
            (cases_Bool (k.leq (asked k t posted) (t b.right)))

        met_after : (r : Row) → Contains after r → Meets k t (exact_of k r)
        met_after r has =
            ⊎_elim (met_row r) (λ h. subst (λ r. Meets k t (exact_of k r)) (only_one b r h) met_posted) (Contains-append_cases rows (b ∷ []) r has)

        met : (e : ExactBound k) → Contains (force k n after) e → Meets k t e
        met e has =
            ⊎_elim (λ r. subst (Meets k t) r.2 (met_after r.0 r.1))
            (λ f. subst (Meets k t) f.2 (met_before (floor_of k f.0) (floor_held k n (map (exact_of k) rows) f.0 f.1))) (force_held k n after e has)

        solution : Solution k (force k n after) t
        solution = record {
          zero_first = p.times.solution.zero_first;
          meets = All-weaker (Contains (force k n after)) (Meets k t) met (force k n after) (All-contains_itself (force k n after));
        }

    -- a bound that covers the posted one is met, so the posted one would be
    pub post_bare : Lt k (t b.right) (asked k t posted) → Covered k rows b → ⊥
    post_bare above c =
        let covers = c.2 in
        let less = sum_orders laws (t b.left) _ _ ((theory laws).opposite_reverses _ _ covers.delay) in
        let met = rw (covers.left, covers.right) at (meets_asked laws t (exact_of k c.0) (met_row c.0 c.1)) in
        not_both k _ _ (laws.transitive _ _ _ less met) above

    abbrev all : Bounds k
    all = in_question k n n rows (b ∷ [])

    posed : Posed k n (force k n rows) all b.left t
    posed = post_posed laws p.some p.few rows p.fit p.sound b p.fits p.sound_posted t p.times

    begun : (over : List ℕ) → Spread k n all b.left (Leads k (b ∷ [])) t (λ q. false) t (over_of k rows (b ∷ []) over)
    begun over = begin laws (over_of k rows (b ∷ []) over)

    held : Contains all posted
    held = question_posted k n n rows (b ∷ []) b (0, omega arith, refl)

    -- what the posted bound asks is near enough
    pub post_near : k.size (asked k t posted) ≤ 256 * k.greatest
    post_near = asks_near laws posed (begun []) posted held

    -- at the right point of the posted bound that bound is noted, whatever the number is
    over_here : (over : List ℕ) (q : ℕ) → q ≡ b.right → over_of k rows (b ∷ []) over q ≡ posted
    over_here over q e = cond-true (eqb q b.right) posted (numbered_at k rows (slice_index over q) q) (eq-eqb q b.right e)

    raises : Lt k (t b.right) (asked k t posted) → Raises k n all b.left (Leads k (b ∷ [])) (λ q. false) t posted
    raises above = record { held = held; begun = inl refl; begins = λ e. refl; above = above }

    abbrev Relaxes : (after : ℕ → Exact k) → (over over' line line' : List ℕ) → Bool → Type 0
    Relaxes after over over' line line' = Relaxed k (star_of n b) b.right (asked k t posted) 0 t after over over' line line'

    -- the posted bound would raise its own left point
    pub post_stopped : {time : ℕ → Exact k} {over over' line line' : List ℕ} → Relaxes time over over' line line' true
        → Stopped k n rows (star_of n b) time over'
    post_stopped {time} {over} {over'} s =
        let back = sym s.root in
        subst (λ (time : ℕ → Exact k). Stopped k n rows (star_of n b) time over') (sym s.times) (record {
          met = force k n rows;
          start = t;
          risen = λ q. false;
          leaves = All-cons (λ b'. b'.left ≡ b.left) b [] refl (All-nil (λ b'. b'.left ≡ b.left));
          posed = posed;
          spread = begun over';
          closed = record { raises = rw (over_here over' b.left back) (raises s.above); right = rw (over_here over' b.left back) s.root };
        })

    -- the right point has risen, and waits
    post_risen : {time : ℕ → Exact k} {over over' line line' : List ℕ} → line ≡ []
        → Rises k (star_of n b) b.right (asked k t posted) 0 t time over over' line line' → Ready k n rows (star_of n b) time over' line'
    post_risen {time} {over} {over'} {line} {line'} none r =
        let only = alone line b.right line' none (r.low p.fits.right) in
        let May = MayBeTaken k n rows (star_of n b) (also (λ q. false) b.right) in
        record {
          working = record {
            met = force k n rows;
            start = t;
            risen = also (λ q. false) b.right;
            limit = p.fits.left;
            leaves = All-cons (λ b'. b'.left ≡ b.left) b [] refl (All-nil (λ b'. b'.left ≡ b.left));
            posed = posed;
            spread = rise laws posed (begun over) posted (raises r.above) r.off r.times.here r.times.elsewhere (over_here over' b.right refl)
                (λ q ne. over_kept k rows over over' q (Some b) (r.overs.elsewhere q ne));
            begun = rw only (All-cons May b.right [] (record { low = p.fits.right; begun = inr (also_itself (λ q. false) b.right) }) (All-nil May));
          };
          quiet = rw only (post_quiet laws n rows b t p.times.solution time r.times.here r.times.elsewhere r.above (Leads k (b ∷ [])));
        }

    -- what is above raises, so the spreading begins
    pub post_ready : {time : ℕ → Exact k} {over over' line line' : List ℕ} → Lt k (t b.right) (asked k t posted) → line ≡ []
        → Relaxes time over over' line line' false → Ready k n rows (star_of n b) time over' line'
    post_ready above none relaxed = ⊎_elim (λ r. absurd (not_both k _ _ r.enough above)) (post_risen none) relaxed

    -- where it ends, the times are the new earliest ones
    pub post_ended : {time : ℕ → Exact k} {over : List ℕ} → Ended k n rows (star_of n b) time over → Times k n after time
    post_ended {time} e = post_times rows time p.fit b (ends laws e.working.posed e.working.spread e.met)
