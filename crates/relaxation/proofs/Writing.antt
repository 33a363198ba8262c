-- A time, or the number of a bound, is written for one point: what that point has, and that the others keep theirs. Assumes nothing.
use Rattle.std.proofs.Common.{◌≡◌, ℕ, ◌<◌, ◌≤◌, Option, Some, List, map, length, get_or, set, slice_index, ◌∙◌, arith}
use Rattle.std.specs.Option.{MatchOption}
use Rattle.std.proofs.lemmas.List.{get_or-map, get_or-set_same, get_or-set_other, length-map, map-set}
use Rattle.std.proofs.lemmas.Option.{MatchOption-at_some}
use Rattle.delays.specs.Kind.{Kind, Exact}
use Rattle.network.specs.Assignments.{Lt}
use Rattle.network.specs.Edges.{time_of_point}
use Rattle.relaxation.specs.declared.star.Star.{Star}
use Rattle.relaxation.specs.Line.{Joined}
use Rattle.relaxation.specs.Workings.{PutAt, Rises}

pub number_put : (over : List ℕ) (v number : ℕ) → v < length over → PutAt (λ q. slice_index over q) (λ q. slice_index (set over v number) q) v number
number_put over v number low = record {
  here = get_or-set_same over v number 0 low;
  elsewhere = λ q ne. get_or-set_other over v q number 0 ne;
}

module _ (k : Kind) {X : Type 0} (means : X → Exact k) (times : List X) (v : ℕ) (low : v < length times) where
  pub time_read : (d : X) → time_of_point k means times v ≡ means (get_or times v d)
  time_read d = get_or-map means times v d k.zero low

  pub time_put : (y : X) (x : Exact k) → means y ≡ x → PutAt (time_of_point k means times) (time_of_point k means (set times v y)) v x
  time_put y x e = record {
    here = rw (map-set means times v y) (get_or-set_same (map means times) v (means y) k.zero (omega (arith, length-map times means)) ∙ e);
    elsewhere = λ q ne. rw (map-set means times v y) (get_or-set_other (map means times) v q (means y) k.zero ne);
  }

  -- so a point that is not the root rises where its time and the number of the bound are written, and it comes to the line if it is to
  pub rises_where_written : {star : Star} {number : ℕ} {over line line' : List ℕ} {x : Exact k} {sum : Option X} {y : X} (d : X)
      → MatchOption sum (k.reach < k.size x) (λ s. means s ≡ x) → sum ≡ Some y → Lt k (means (get_or times v d)) x → (v ≡ star.root → ⊥)
      → v < length over → (v < star.limit → Joined line v line') → (star.limit ≤ v → line' ≡ line)
      → Rises k star v x number (time_of_point k means times) (time_of_point k means (set times v y)) over (set over v number) line line'
  rises_where_written {x = x} {y = y} d adds some above off room joins past = record {
    above = rw (time_read d) above;
    off = off;
    times = time_put y x (MatchOption-at_some (k.reach < k.size x) (λ s. means s ≡ x) y some adds);
    overs = number_put _ v _ room;
    low = joins;
    high = past;
  }
