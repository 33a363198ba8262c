-- Paths are short, so earliest times are near zero. Assumes nothing.
use Rattle.std.proofs.Common.{◌<◌, ◌≤◌, map, length, ap, mul-le-mul_right, arith}
use Rattle.std.proofs.lemmas.List.{length-map}
use Rattle.std.specs.List.{All, Contains}
use Rattle.std.proofs.lemmas.List.Elements.{All-contains, All-map, All-weaker, All-cons}
use Rattle.delays.proofs.TotalLaws.{total_size}
use Rattle.delays.specs.Kind.{Kind, Lawful}
use Rattle.network.specs.Bounds.{ExactBound, Inside}
use Rattle.network.specs.Walks.{sum_of, stops, PathShort}
use Rattle.network.specs.Earliest.{EarliestNear}
use Rattle.network.proofs.Counting.{apart_length}

module _ {k : Kind} (laws : Lawful k) where
  -- the points that a path comes to are below n, and no two are equal
  pub path_short : PathShort k
  path_short n edges inside p q small row path =
      let rights : All (λ x. x < n) (map (λ b. b.right) row) =
      All-map (λ x. x < n) (λ b. b.right) row
      (All-weaker (Contains edges) (λ b. b.right < n) (λ b h. (All-contains (Inside k n) edges b inside h).right) row path.held) in
      let few : length (stops p row) ≤ n = apart_length n (stops p row) path.apart (All-cons (λ x. x < n) p (map (λ b. b.right) row) small rights) in
      omega (arith, few, length-map row (λ b. b.right))

  -- the delay is of a size of at most the greatest
  abbrev IsSmall : ExactBound k → Type 0
  IsSmall b = k.size b.delay ≤ k.greatest

  pub earliest_near : EarliestNear k
  earliest_near n edges inside small some p x e =
      let row = e.row in
      let short : length row < n = path_short n edges inside 0 p some row e.path in
      let few : length row ≤ n = omega arith in
      let each = All-weaker (Contains edges) IsSmall (λ b. All-contains IsSmall edges b small) row e.path.held in
      omega (arith, ap k.size e.value, laws.size_opposite (sum_of k row), total_size laws (λ b. b.delay) row each, mul-le-mul_right k.greatest few)
