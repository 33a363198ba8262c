-- What a spreading over the bounds of a book holds while it goes on: the times of the points, the number of the bound over which each rose
-- last, and the line of points that wait. Assumes nothing.
use Rattle.std.specs.Prelude.{◌≡◌, ℕ, ◌<◌, ◌≤◌, Bool, true, false, ◌⊎◌, List, [], ◌∷◌, ◌++◌, Option, Some, None, length, slice_index, slice_index_or}
use Rattle.std.specs.List.{All, Contains}
use Rattle.bounds.specs.declared.row.Row.{Row}
use Rattle.delays.specs.Kind.{Kind, Exact}
use Rattle.network.specs.Bounds.{ExactBound, Bounds, floor_of}
use Rattle.network.specs.Assignments.{Le, Lt}
use Rattle.network.specs.Edges.{time_of_point}
use Rattle.relaxation.specs.declared.star.Star.{Star}
use Rattle.relaxation.specs.Line.{Joined}
use Rattle.relaxation.specs.Rows.{exact_of}
use Rattle.relaxation.specs.Spreads.{Posed, Spread, Closed, Grown, TakenUp, Quiet, asked}
use Rattle.relaxation.specs.Stars.{in_question, over_of, Leads}

-- the posted bound, if there is one
abbrev pub posted_rows : Option Row → List Row
posted_rows None = []
posted_rows (Some b) = b ∷ []

module _ (k : Kind) (n : ℕ) (rows : List Row) (star : Star) where
  -- the bounds that the spreading is about
  abbrev pub all : Bounds k
  all = in_question k n star.limit rows (posted_rows star.posted)

  -- a point that may be taken up: below the limit, and the root, where no bound is posted, or one that has risen
  pub record MayBeTaken (risen : ℕ → Bool) (q : ℕ) : Type 0 where
    pub low : q < star.limit
    pub begun : ((q ≡ star.root) × (star.posted ≡ None)) ⊎ (risen q ≡ true)

  -- times spread, and each point of the line may be taken up
  pub record Working (time : ℕ → Exact k) (over line : List ℕ) : Type 0 where
    pub met : Bounds k
    pub start : ℕ → Exact k
    pub risen : ℕ → Bool
    pub limit : star.root < star.limit
    pub leaves : All (λ b. b.left ≡ star.root) (posted_rows star.posted)
    pub posed : Posed k n met all star.root start
    pub spread : Spread k n all star.root (Leads k (posted_rows star.posted)) start risen time (over_of k rows (posted_rows star.posted) over)
    pub begun : All (MayBeTaken risen) line

  -- the root would rise, over the bound that is noted for it
  pub record Stopped (time : ℕ → Exact k) (over : List ℕ) : Type 0 where
    pub met : Bounds k
    pub start : ℕ → Exact k
    pub risen : ℕ → Bool
    pub leaves : All (λ b. b.left ≡ star.root) (posted_rows star.posted)
    pub posed : Posed k n met all star.root start
    pub spread : Spread k n all star.root (Leads k (posted_rows star.posted)) start risen time (over_of k rows (posted_rows star.posted) over)
    pub closed : Closed k n all star.root (Leads k (posted_rows star.posted)) risen time (over_of k rows (posted_rows star.posted) over)

  -- the point u is being taken up: the times rose from `before`, and `more` came to the line
  pub record Going (u : ℕ) (before after : ℕ → Exact k) (over line_before line : List ℕ) : Type 0 where
    pub more : List ℕ
    pub joined : line ≡ line_before ++ more
    pub made : Grown k n all star.root (Leads k (posted_rows star.posted)) star.limit u before after line_before more
    pub working : Working after over (u ∷ line)

  -- the bounds of the book that leave it are met
  pub record RowsTaken (u : ℕ) (before after : ℕ → Exact k) (over line_before line : List ℕ) : Type 0 where
    pub going : Going u before after over line_before line
    pub met : (i : ℕ) (r : Row) → i < length rows → (slice_index_or rows i r).left ≡ u
        → Le k (asked k after (exact_of k (slice_index_or rows i r))) (after (slice_index_or rows i r).right)

  -- the floors are met
  pub record FloorsTaken (before after : ℕ → Exact k) (over line_before line : List ℕ) : Type 0 where
    pub going : Going 0 before after over line_before line
    pub met : (p : ℕ) → p < n → Le k (asked k after (floor_of k p)) (after p)

  -- it was taken up
  pub record Taken (u : ℕ) (before after : ℕ → Exact k) (over line_before line : List ℕ) : Type 0 where
    pub more : List ℕ
    pub joined : line ≡ line_before ++ more
    pub taken : TakenUp k n all star.root (Leads k (posted_rows star.posted)) star.limit u before after line_before more
    pub working : Working after over line

  -- where a spreading begins: every bound is met but for those that leave the points of the line
  pub record Ready (time : ℕ → Exact k) (over line : List ℕ) : Type 0 where
    pub working : Working time over line
    pub quiet : Quiet k n all star.root (Leads k (posted_rows star.posted)) time line

  -- where it ends: no point waits, and every bound is met
  pub record Ended (time : ℕ → Exact k) (over : List ℕ) : Type 0 where
    pub working : Working time over []
    pub met : (b : ExactBound k) → Contains all b → Le k (asked k time b) (time b.right)

-- g is f, but at v it is x
pub record PutAt {A : Type 0} (f g : ℕ → A) (v : ℕ) (x : A) : Type 0 where
  pub here : g v ≡ x
  pub elsewhere : (q : ℕ) → (q ≡ v → ⊥) → g q ≡ f q

module _ (k : Kind) (star : Star) (right : ℕ) (x : Exact k) (number : ℕ) where
  -- x is not more than the time of the point, and nothing changes
  pub record Rests (before after : ℕ → Exact k) (over over' line line' : List ℕ) : Type 0 where
    pub enough : Le k x (before right)
    pub times : after ≡ before
    pub overs : over' ≡ over
    pub lines : line' ≡ line

  -- x is more, and the point is not the root: it rises to x over the bound with the number, and waits if it is below the limit
  pub record Rises (before after : ℕ → Exact k) (over over' line line' : List ℕ) : Type 0 where
    pub above : Lt k (before right) x
    pub off : right ≡ star.root → ⊥
    pub times : PutAt before after right x
    pub overs : PutAt (λ q. slice_index over q) (λ q. slice_index over' q) right number
    pub low : right < star.limit → Joined line right line'
    pub high : star.limit ≤ right → line' ≡ line

  -- x is more, and the point is the root: the number is noted for it
  pub record Stops (before after : ℕ → Exact k) (over over' line line' : List ℕ) : Type 0 where
    pub above : Lt k (before right) x
    pub root : right ≡ star.root
    pub times : after ≡ before
    pub overs : PutAt (λ q. slice_index over q) (λ q. slice_index over' q) right number

  -- what a bound does that asks x of the point: the answer is whether the root would rise
  abbrev pub Relaxed : (before after : ℕ → Exact k) → (over over' line line' : List ℕ) → Bool → Type 0
  Relaxed before after over over' line line' true = Stops before after over over' line line'
  Relaxed before after over over' line line' false = Rests before after over over' line line' ⊎ Rises before after over over' line line'
