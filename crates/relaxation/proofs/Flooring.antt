-- Point 0 is taken up: the floors, which leave it, are heeded point by point. Assumes nothing.
use Rattle.std.proofs.Common.{◌≡◌, ℕ, ◌+◌, ◌*◌, ◌<◌, ◌≤◌, ◌⊎◌, List, ◌∷◌, map, length, refl, sym, ap, ◌∙◌, subst, ⊎_elim, arith}
use Rattle.std.specs.List.{Contains}
use Rattle.std.proofs.lemmas.Bool.{cases_lt}
use Rattle.std.proofs.lemmas.List.{get_or_past, length-map}
use Rattle.bounds.specs.declared.row.Row.{Row}
use Rattle.delays.specs.Kind.{Kind, Exact, Lawful}
use Rattle.delays.proofs.TheoryLaws.{theory}
use Rattle.network.specs.Bounds.{floor_of}
use Rattle.network.specs.Assignments.{Le}
use Rattle.network.specs.Rounds.{carry}
use Rattle.relaxation.specs.declared.star.Star.{Star}
use Rattle.relaxation.specs.Rows.{exact_of}
use Rattle.relaxation.specs.Spreads.{asked}
use Rattle.relaxation.specs.Stars.{numbered_at}
use Rattle.relaxation.specs.Workings.{all, posted_rows, Working, Stopped, Going, FloorsTaken, Rests, Rises, Stops}
use Rattle.relaxation.proofs.Stars.{question_floor}
use Rattle.relaxation.proofs.Relaxing.{Heeded, bound_near, rests, rises, stops}
use Rattle.relaxation.proofs.Taking.{going_begins, met_kept}

-- the floors of the points below p were heeded
pub record FloorsGoing (k : Kind) (n : ℕ) (rows : List Row) (star : Star) (before time : ℕ → Exact k) (over line_before line : List ℕ) (p : ℕ) : Type 0 where
  pub going : Going k n rows star 0 before time over line_before line
  pub met : (q : ℕ) → q < p → Le k (asked k time (floor_of k q)) (time q)

pub floors_begin : {k : Kind} (laws : Lawful k) {n : ℕ} {rows : List Row} {star : Star} {time : ℕ → Exact k} {over line : List ℕ}
    → Working k n rows star time over (0 ∷ line) → FloorsGoing k n rows star time time over line line 0
floors_begin laws w = record { going = going_begins laws w; met = λ q low. absurd (omega arith) }

pub floors_end : {k : Kind} {n : ℕ} {rows : List Row} {star : Star} {before time : ℕ → Exact k} {over line_before line : List ℕ} {p : ℕ}
    → FloorsGoing k n rows star before time over line_before line p → n ≤ p → FloorsTaken k n rows star before time over line_before line
floors_end g all = record { going = g.going; met = λ q low. g.met q (omega arith) }

-- The floor of p is heeded: nothing is added to the time of point 0.
module _ {k : Kind} (laws : Lawful k) {n : ℕ} {rows : List Row} {star : Star} {before time : ℕ → Exact k} {over line_before line : List ℕ}
    {p : ℕ} (g : FloorsGoing k n rows star before time over line_before line p) (low : p < n) (few : length rows ≤ 65535) {from change : Exact k}
    (is_from : before 0 ≡ from) (is_change : change ≡ k.zero) where
  floor_held : Contains (all k n rows star) (floor_of k p)
  floor_held = question_floor k n star.limit rows (posted_rows star.posted) p low

  floor_named : numbered_at k rows 65535 p ≡ floor_of k p
  floor_named = get_or_past (map (exact_of k) rows) 65535 (floor_of k p) (omega (arith, length-map rows (exact_of k)))

  asks : k.sum from change ≡ asked k time (floor_of k p)
  asks =
      ap (λ x. k.sum x change) (sym is_from) ∙ (ap (k.sum (before 0)) (is_change ∙ sym (theory laws).opposite_zero)
      ∙ ap (λ x. carry k x k.zero) (sym g.going.made.itself))

  pub floor_near : 256 * k.greatest ≤ k.reach → k.size (k.sum from change) ≤ k.reach
  floor_near room = omega (arith, ap k.size asks, bound_near laws g.going (floor_of k p) floor_held refl)

  module _ {time' : ℕ → Exact k} {over' line' : List ℕ} where
    pub floor_stops : Stops k star p (k.sum from change) 65535 time time' over over' line line' → Stopped k n rows star time' over'
    floor_stops h =
        stops laws g.going (floor_of k p) floor_held refl floor_named (subst (λ x. Stops k star p x 65535 time time' over over' line line') asks h)

    pub floors_go : Rests k star p (k.sum from change) 65535 time time' over over' line line'
        ⊎ Rises k star p (k.sum from change) 65535 time time' over over' line line' → FloorsGoing k n rows star before time' over' line_before line' (p + 1)
    floors_go h = record { going = made.going; met = λ q low. ⊎_elim (below q) (here q low) (cases_lt q p) }
      where
        made : Heeded k n rows star 0 (floor_of k p) before time time' over' line_before line'
        made =
            ⊎_elim (rests laws g.going (floor_of k p) floor_held refl floor_named) (rises laws g.going (floor_of k p) floor_held refl floor_named)
            (subst (λ x. Rests k star p x 65535 time time' over over' line line' ⊎ Rises k star p x 65535 time time' over over' line line') asks h)

        below : (q : ℕ) → q < p → Le k (asked k time' (floor_of k q)) (time' q)
        below q less = met_kept laws made.still made.grown (floor_of k q) refl (g.met q less)

        here : (q : ℕ) → q < p + 1 → p ≤ q → Le k (asked k time' (floor_of k q)) (time' q)
        here q less more =
            let same : p ≡ q = omega arith in
            subst (λ q. Le k (asked k time' (floor_of k q)) (time' q)) same made.met
