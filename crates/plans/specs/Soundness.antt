-- What holds of a plan between any two calls. Assumes nothing.
use Rattle.std.specs.Prelude.{◌≡◌, ℕ, ◌<◌, ◌≤◌, Bool, true, false, List, [], ◌++◌, length, map, take, All, AllPairs}
use Rattle.delays.specs.Kind.{Kind, Exact}
use Rattle.network.specs.Edges.{time_of_point}
use Rattle.books.specs.Meaning.{Meaning, bounds_of}
use Rattle.relaxation.specs.ByLeft.{Lists}
use Rattle.relaxation.specs.declared.by_left.ByLeft.{ByLeft}
use Rattle.plans.specs.Marks.{Mark}
use Rattle.plans.specs.Rows.{Fit, Least}

module _ {X : Type 0} (k : Kind) (means : X → Exact k) where
  -- a mark noted a count of added bounds, and the least times of the fixed bounds and those
  pub record Restores (book : Meaning) (n : ℕ) (m : Mark X) : Type 0 where
    pub added : m.added ≤ length book.added
    pub least : Least k n (book.fixed ++ take m.added book.added) (time_of_point k means m.times)

  -- a settled plan: it has from 1 to 128 points, each bound of the book is one that it can take, the times are the least, the index lists
  -- the bounds, each mark can be restored, and no later mark noted fewer bounds
  pub record Settled (book : Meaning) (n : ℕ) (times : List X) (index : ByLeft) (marks : List (Mark X)) : Type 0 where
    pub some : 0 < n
    pub few : n ≤ 128
    pub fit : All (Fit k n) (bounds_of book)
    pub least : Least k n (bounds_of book) (time_of_point k means times)
    pub listed : Lists index (map (λ r. r.left) (bounds_of book))
    pub restores : All (Restores book n) marks
    pub rising : AllPairs (λ x y. x.added ≤ y.added) marks

  -- at most eight marks are open, and none in a plan that is not settled
  pub record Sound (book : Meaning) (n : ℕ) (settled : Bool) (times : List X) (index : ByLeft) (marks : List (Mark X)) : Type 0 where
    pub marks_few : length marks ≤ 8
    pub unsettled : settled ≡ false → marks ≡ []
    pub settled_times : settled ≡ true → Settled book n times index marks
