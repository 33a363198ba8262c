-- A point is being taken up: the rows that leave it are heeded one by one, the newest first. Assumes nothing.
use Rattle.std.proofs.Common.{◌≡◌, ℕ, ◌*◌, ◌<◌, ◌≤◌, ◌⊎◌, Option, Some, None, List, [], ◌∷◌, length, get_or}
use Rattle.std.proofs.Common.{refl, sym, ap, ◌∙◌, subst, inl, ⊎_elim, append-nil, arith}
use Rattle.std.specs.List.{All, Contains}
use Rattle.std.proofs.lemmas.List.{get_or-map, length-map}
use Rattle.std.proofs.lemmas.List.Elements.{All-head, All-get_or}
use Rattle.bounds.specs.declared.row.Row.{Row}
use Rattle.delays.specs.Kind.{Kind, Exact, Lawful}
use Rattle.network.specs.Bounds.{ExactBound, floor_of}
use Rattle.network.specs.Assignments.{Le}
use Rattle.network.specs.Rounds.{carry}
use Rattle.relaxation.specs.declared.star.Star.{Star}
use Rattle.relaxation.specs.Rows.{exact_of, Fit}
use Rattle.relaxation.specs.Spreads.{asked}
use Rattle.relaxation.specs.Stars.{numbered_at}
use Rattle.relaxation.specs.Workings.{all, posted_rows, MayBeTaken, Working, Stopped, Going, RowsTaken, Rests, Rises, Stops}
use Rattle.relaxation.proofs.Listing.{lefts_of}
use Rattle.relaxation.proofs.Cursors.{Cursor, Found, cursor_begins, cursor_goes, cursor_ends}
use Rattle.relaxation.proofs.Stars.{question_row}
use Rattle.relaxation.proofs.Relaxing.{Heeded, bound_near, rests, rises, stops}

-- what may be taken up is one of the n points
pub taken_inside : {k : Kind} {n : ℕ} {rows : List Row} {star : Star} {u : ℕ} {time : ℕ → Exact k} {over line : List ℕ}
    → Working k n rows star time over (u ∷ line) → u < n
taken_inside {k} {n} {rows} {star} {u} {time} {over} {line} w =
    ⊎_elim (λ h. rw h.0 w.posed.some) (w.spread.inside u) (All-head (MayBeTaken k n rows star w.risen) u line w.begun).begun

-- nothing has risen yet
pub going_begins : {k : Kind} (laws : Lawful k) {n : ℕ} {rows : List Row} {star : Star} {u : ℕ} {time : ℕ → Exact k} {over line : List ℕ}
    → Working k n rows star time over (u ∷ line) → Going k n rows star u time time over line line
going_begins laws {time = time} {line = line} w = record {
  more = [];
  joined = sym (append-nil line);
  made = record {
    itself = refl;
    grown = λ q. laws.reflexive (time q);
    waits = λ q low. inl refl;
    new = λ q has. absurd (omega (arith, has.1));
  };
  working = w;
}

-- a bound that leaves the point stays met, while the point has its time and no time falls
pub met_kept : {k : Kind} (laws : Lawful k) {u : ℕ} {time time' : ℕ → Exact k} → time' u ≡ time u → ((q : ℕ) → Le k (time q) (time' q))
    → (c : ExactBound k) → c.left ≡ u → Le k (asked k time c) (time c.right) → Le k (asked k time' c) (time' c.right)
met_kept {k} laws {u} {time} {time'} still grown c left met =
    laws.transitive (asked k time' c) (time c.right) (time' c.right)
    (subst (λ x. Le k (carry k x c.delay) (time c.right)) (ap time left ∙ (sym still ∙ ap time' (sym left))) met) (grown c.right)

left_at : (rows : List Row) (i : ℕ) (r : Row) → i < length rows → get_or (lefts_of rows) i 0 ≡ (get_or rows i r).left
left_at rows i r low = get_or-map (λ (r : Row). r.left) rows i r 0 low

in_rows : (rows : List Row) {i : ℕ} → i < length (lefts_of rows) → i < length rows
in_rows rows low = omega (arith, length-map rows (λ (r : Row). r.left))

-- the times meet the row with the number
abbrev pub MetAt : (k : Kind) → List Row → (ℕ → Exact k) → ℕ → Type 0
MetAt k rows time i = (r : Row) → Le k (asked k time (exact_of k (get_or rows i r))) (time (get_or rows i r).right)

-- The rows that leave the point u were heeded from the newest one on, as far as the cursor.
pub record RowsGoing (k : Kind) (n : ℕ) (rows : List Row) (star : Star) (u : ℕ) (before time : ℕ → Exact k) (over line_before line : List ℕ)
    (at : Option ℕ) : Type 0 where
  pub going : Going k n rows star u before time over line_before line
  pub cursor : Cursor (lefts_of rows) u (MetAt k rows time) at

pub rows_begin : {k : Kind} (laws : Lawful k) {n : ℕ} {rows : List Row} {star : Star} {u : ℕ} {time : ℕ → Exact k} {over line : List ℕ}
    → Working k n rows star time over (u ∷ line) → {at : Option ℕ} → Found (lefts_of rows) (length (lefts_of rows)) u at
    → RowsGoing k n rows star u time time over line line at
rows_begin laws w found = record { going = going_begins laws w; cursor = cursor_begins found }

module _ {k : Kind} {n : ℕ} {rows : List Row} {star : Star} {u : ℕ} {before time : ℕ → Exact k} {over line_before line : List ℕ} {at : Option ℕ}
    (g : RowsGoing k n rows star u before time over line_before line at) where
  pub rows_end : at ≡ None → RowsTaken k n rows star u before time over line_before line
  rows_end e =
      let done = cursor_ends (subst (Cursor (lefts_of rows) u (MetAt k rows time)) e g.cursor) in
      record { going = g.going; met = λ i r low left. done i (omega (arith, low, length-map rows (λ (r : Row). r.left))) (left_at rows i r low ∙ left) r }

  -- the cursor stands at a row that leaves the point
  module _ {i : ℕ} (is : at ≡ Some i) where
    at_row : Cursor (lefts_of rows) u (MetAt k rows time) (Some i)
    at_row = subst (Cursor (lefts_of rows) u (MetAt k rows time)) is g.cursor

    pub row_listed : i < length (lefts_of rows)
    row_listed = at_row.here.0

    pub row_in : i < length rows
    row_in = in_rows rows row_listed

    pub row_inside : All (Fit k n) rows → {row : Row} → ((r : Row) → row ≡ get_or rows i r) → row.right < n
    row_inside fit {row} read = rw (read row) (All-get_or (Fit k n) rows i row row_in fit).right

-- That row is heeded: what is added to the time of the point is the opposite of the row's delay.
module _ {k : Kind} (laws : Lawful k) {n : ℕ} {rows : List Row} {star : Star} {u : ℕ} {before time : ℕ → Exact k} {over line_before line : List ℕ}
    {at : Option ℕ} (g : RowsGoing k n rows star u before time over line_before line at) {i : ℕ} (is : at ≡ Some i)
    {row : Row} (read : (r : Row) → row ≡ get_or rows i r) {v : ℕ} (at_v : v ≡ row.right) {from change d : Exact k} (is_from : before u ≡ from)
    (is_change : change ≡ k.opposite d) (is_d : d ≡ k.value row.t row.s) where
  row_left : row.left ≡ u
  row_left = ap (λ (r : Row). r.left) (read row) ∙ (sym (left_at rows i row (row_in g is)) ∙ (at_row g is).here.2)

  row_held : Contains (all k n rows star) (exact_of k row)
  row_held =
      let low = (All-head (MayBeTaken k n rows star g.going.working.risen) u line g.going.working.begun).low in
      subst (λ r. Contains (all k n rows star) (exact_of k r)) (sym (read row))
      (question_row k n star.limit rows (posted_rows star.posted) i row (row_in g is) (rw (← read row, row_left) low))

  row_named : numbered_at k rows i row.right ≡ exact_of k row
  row_named = get_or-map (exact_of k) rows i row (floor_of k row.right) (row_in g is) ∙ ap (exact_of k) (sym (read row))

  asks : k.sum from change ≡ asked k time (exact_of k row)
  asks =
      ap (λ x. k.sum x change) (sym is_from) ∙ (ap (k.sum (before u)) (is_change ∙ ap k.opposite is_d)
      ∙ ap (λ x. carry k x (k.value row.t row.s)) (sym g.going.made.itself ∙ ap time (sym row_left)))

  -- what is said of v and of that sum is said of the row's right point and of what the row asks
  said : (P : ℕ → Exact k → Type 0) → P v (k.sum from change) → P row.right (asked k time (exact_of k row))
  said P h = subst (P row.right) asks (subst (λ v. P v (k.sum from change)) at_v h)

  pub row_near : 256 * k.greatest ≤ k.reach → k.size (k.sum from change) ≤ k.reach
  row_near room = omega (arith, ap k.size asks, bound_near laws g.going (exact_of k row) row_held row_left)

  module _ {time' : ℕ → Exact k} {over' line' : List ℕ} where
    pub row_stops : Stops k star v (k.sum from change) i time time' over over' line line' → Stopped k n rows star time' over'
    row_stops h =
        stops laws g.going (exact_of k row) row_held row_left row_named (said (λ v x. Stops k star v x i time time' over over' line line') h)

    row_heeded : Rests k star v (k.sum from change) i time time' over over' line line' ⊎ Rises k star v (k.sum from change) i time time' over over' line line'
        → Heeded k n rows star u (exact_of k row) before time time' over' line_before line'
    row_heeded h =
        ⊎_elim (rests laws g.going (exact_of k row) row_held row_left row_named) (rises laws g.going (exact_of k row) row_held row_left row_named)
        (said (λ v x. Rests k star v x i time time' over over' line line' ⊎ Rises k star v x i time time' over over' line line') h)

    pub rows_go : Rests k star v (k.sum from change) i time time' over over' line line' ⊎ Rises k star v (k.sum from change) i time time' over over' line line'
        → {next : Option ℕ} → Found (lefts_of rows) i (get_or (lefts_of rows) i 0) next
        → RowsGoing k n rows star u before time' over' line_before line' next
    rows_go h found = record { going = made.going; cursor = cursor_goes still_done now found }
      where
        made : Heeded k n rows star u (exact_of k row) before time time' over' line_before line'
        made = row_heeded h

        now : MetAt k rows time' i
        now r = subst (λ r. Le k (asked k time' (exact_of k r)) (time' r.right)) (read r) made.met

        still_done : Cursor (lefts_of rows) u (MetAt k rows time') (Some i)
        still_done = let c = at_row g is in record {
          here = c.here;
          done = λ j past low left r. met_kept laws made.still made.grown (exact_of k (get_or rows j r))
              (sym (left_at rows j r (in_rows rows low)) ∙ left) (c.done j past low left r);
        }
