-- How times spread from one point over bounds: what holds while they do. Assumes nothing.
use Rattle.std.specs.Prelude.{◌≡◌, ℕ, zero, suc, ◌<◌, ◌≤◌, Bool, true, false, ◌⊎◌, List, [], ◌∷◌, ◌++◌, length}
use Rattle.std.specs.List.{All, Contains}
use Rattle.delays.specs.Kind.{Kind, Exact}
use Rattle.network.specs.Bounds.{ExactBound, Bounds, Inside}
use Rattle.network.specs.Assignments.{Le, Lt, Solution}
use Rattle.network.specs.Walks.{sum_of, Walk, Path}
use Rattle.network.specs.Earliest.{Earliest}
use Rattle.network.specs.Rounds.{carry}

-- the point to which so many steps back from q lead
abbrev pub back : {k : Kind} → (ℕ → ExactBound k) → ℕ → ℕ → ℕ
back over zero q = q
back over (suc i) q = (over (back over i q)).left

module _ (k : Kind) where
  -- The bounds `met` have the earliest times `start`, and those of `all` that are not among them leave the root.
  pub record Posed (n : ℕ) (met all : Bounds k) (root : ℕ) (start : ℕ → Exact k) : Type 0 where
    pub some : root < n
    pub few : n ≤ 128
    pub inside : All (Inside k n) all
    pub small : All (λ b. k.size b.delay ≤ k.greatest) all
    pub among : (b : ExactBound k) → Contains met b → Contains all b
    pub others : (b : ExactBound k) → Contains all b → (b.left ≡ root → ⊥) → Contains met b
    pub solution : Solution k met start
    pub earliest : (p : ℕ) → p < n → Earliest k met p (start p)

  -- what a bound asks of the time of its right point
  abbrev pub asked : (ℕ → Exact k) → ExactBound k → Exact k
  asked time b = carry k (time b.left) b.delay

  -- what a walk from the root asks of the time of its last point
  abbrev pub asked_along : (ℕ → Exact k) → ℕ → Bounds k → Exact k
  asked_along time root row = carry k (time root) (sum_of k row)

  -- q leads back to the root in j steps, each over the bound that raised a point last
  abbrev pub LeadsBack : (ℕ → Bool) → (ℕ → ExactBound k) → ℕ → ℕ → ℕ → Type 0
  LeadsBack risen over root zero q = q ≡ root
  LeadsBack risen over root (suc j) q = (risen q ≡ true) × LeadsBack risen over root j (over q).left

  -- the bounds of those steps, in the order of a walk from the root
  abbrev pub trail : (ℕ → ExactBound k) → ℕ → ℕ → Bounds k
  trail over zero q = []
  trail over (suc j) q = trail over j (over q).left ++ over q ∷ []

  module _ (n : ℕ) (all : Bounds k) (root : ℕ) (first : ExactBound k → Type 0) where
    -- q got its time over a path from the root, which begins with one of the bounds `first`; no point on it has less than the path asks
    pub record Came (time : ℕ → Exact k) (q : ℕ) : Type 0 where
      pub lead : ExactBound k
      pub rest : Bounds k
      pub path : Path k all root q (lead ∷ rest)
      pub begins : first lead
      pub value : time q ≡ asked_along time root (lead ∷ rest)
      pub upto : (front back : Bounds k) (v : ℕ) → lead ∷ rest ≡ front ++ back → Walk root front v → Le k (asked_along time root front) (time v)

    -- the bound over which q rose last asks no less than the time of q
    pub record Raised (over : ℕ → ExactBound k) (time : ℕ → Exact k) (q : ℕ) : Type 0 where
      pub held : Contains all (over q)
      pub right : (over q).right ≡ q
      pub value : Le k (time q) (asked time (over q))
      pub begins : (over q).left ≡ root → first (over q)

    -- The times `time` came from `start`: the root and the points that have not risen have their old times, and each other point got
    -- its time over a path, and leads back to the root.
    pub record Spread (start : ℕ → Exact k) (risen : ℕ → Bool) (time : ℕ → Exact k) (over : ℕ → ExactBound k) : Type 0 where
      pub root_still : risen root ≡ false
      pub still : (q : ℕ) → risen q ≡ false → time q ≡ start q
      pub grown : (q : ℕ) → Le k (start q) (time q)
      pub inside : (q : ℕ) → risen q ≡ true → q < n
      pub came : (q : ℕ) → risen q ≡ true → Came time q
      pub raised : (q : ℕ) → risen q ≡ true → Raised over time q
      pub behind : (q : ℕ) → risen q ≡ true → (j : ℕ) × LeadsBack risen over root j q

    -- a point that may be taken up: the root, or one that has risen
    abbrev pub Begun : (ℕ → Bool) → ℕ → Type 0
    Begun risen u = (u ≡ root) ⊎ (risen u ≡ true)

    -- the bound raises its right point: it leaves a point that may be taken up, and asks more than its right point has
    pub record Raises (risen : ℕ → Bool) (time : ℕ → Exact k) (b : ExactBound k) : Type 0 where
      pub held : Contains all b
      pub begun : Begun risen b.left
      pub begins : b.left ≡ root → first b
      pub above : Lt k (time b.right) (asked time b)

    -- no time is below what a walk of at most m bounds asks
    abbrev pub Asked : (ℕ → Exact k) → ℕ → Type 0
    Asked time m = (row : Bounds k) (q : ℕ) → Walk root row q → All (Contains all) row → length row ≤ m → Le k (asked_along time root row) (time q)

    -- each point of the line has a time above what any walk of fewer than m bounds asks
    abbrev pub Fresh : (ℕ → Exact k) → List ℕ → ℕ → Type 0
    Fresh time line m = (q : ℕ) → Contains line q → (row : Bounds k) → Walk root row q → All (Contains all) row → length row < m
        → Lt k (asked_along time root row) (time q)

    -- each bound is met whose left point does not wait in the line
    abbrev pub Quiet : (ℕ → Exact k) → List ℕ → Type 0
    Quiet time line = (b : ExactBound k) → Contains all b → (Contains line b.left → ⊥) → Le k (asked time b) (time b.right)

    -- between two passes: m of them are done
    pub record Passed (m : ℕ) (time : ℕ → Exact k) (line : List ℕ) : Type 0 where
      pub quiet : Quiet time line
      pub asked : Asked time m
      pub fresh : Fresh time line m

    -- Within a pass that began with the times `begin`: the points `rest` are still to be taken up in it, and the points `later` came to wait.
    pub record Passing (m : ℕ) (begin time : ℕ → Exact k) (rest later : List ℕ) : Type 0 where
      pub quiet : Quiet time (rest ++ later)
      pub asked_before : Asked begin m
      pub taken : (b : ExactBound k) → Contains all b → (Contains rest b.left → ⊥) → Le k (asked begin b) (time b.right)
      pub grown : (q : ℕ) → Le k (begin q) (time q)
      pub new : (q : ℕ) → Contains later q → Lt k (begin q) (time q)

    -- The point u was taken up: its bounds are met, and the points below the limit that rose wait.
    pub record Grown (limit u : ℕ) (before after : ℕ → Exact k) (line more : List ℕ) : Type 0 where
      pub itself : after u ≡ before u
      pub grown : (q : ℕ) → Le k (before q) (after q)
      pub waits : (q : ℕ) → q < limit → (after q ≡ before q) ⊎ Contains (line ++ more) q
      pub new : (q : ℕ) → Contains more q → Lt k (before q) (after q)

    pub record TakenUp (limit u : ℕ) (before after : ℕ → Exact k) (line more : List ℕ) : Type 0 where
      pub made : Grown limit u before after line more
      pub met : (b : ExactBound k) → Contains all b → b.left ≡ u → Le k (asked after b) (after b.right)

    -- the bound over which the root would rise is noted for it
    pub record Closed (risen : ℕ → Bool) (time : ℕ → Exact k) (over : ℕ → ExactBound k) : Type 0 where
      pub raises : Raises risen time (over root)
      pub right : (over root).right ≡ root
