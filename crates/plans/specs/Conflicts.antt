-- The chain of a conflict, as words on the caller's list. Assumes nothing.
use Rattle.std.specs.Prelude.{◌≡◌, ℕ, ◌*◌, ◌^◌, ◌<◌, ◌≤◌, ◌⊎◌, List, [], ◌++◌, map, length, drop, slice_index, slice_index_or}
use Rattle.bounds.specs.declared.row.Row.{Row}
use Rattle.delays.specs.Kind.{Kind}
use Rattle.network.specs.declared.link.Link.{Link}
use Rattle.network.specs.Bounds.{ExactBound, Bounds, floor_of}
use Rattle.network.specs.Chains.{ChainIn}
use Rattle.network.specs.Links.{HasWord, Names}
use Rattle.plans.specs.Rows.{exact_of, force}

-- the word names the bound: 01 and the bound's number in the book, 10 and the floor's point, or 11 for the posted bound
pub record Named (k : Kind) (book posted : List Row) (w : ℕ) (b : ExactBound k) : Type 0 where
  pub link : Link
  pub word : HasWord link w
  pub names : Names k (map (exact_of k) book) (map (exact_of k) posted) link b

-- the first c words of the list name a chain, which begins with the posted bound where there is one, and the rest of the list is as it was
pub record ChainWritten (k : Kind) (n : ℕ) (book posted : List Row) (before after : List ℕ) (c : ℕ) : Type 0 where
  pub row : Bounds k
  pub chain : ChainIn k (force k n (book ++ posted)) row
  pub count : length row ≡ c
  pub upto : c ≤ n
  pub words : (i : ℕ) → i < c → Named k book posted (slice_index after i) (slice_index_or row i (floor_of k 0))
  pub first : (posted ≡ []) ⊎ (slice_index after 0 ≡ 3 * 2 ^ 30)
  pub long : length after ≡ length before
  pub others : drop c after ≡ drop c before
