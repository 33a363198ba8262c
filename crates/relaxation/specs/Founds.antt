-- The chain that a spreading finds, by words that name its bounds. Assumes nothing.
use Rattle.std.specs.Prelude.{◌≡◌, ℕ, zero, suc, ◌+◌, ◌*◌, ◌-◌, ◌^◌, ◌<◌, ◌≤◌, ◌⊎◌, List, [], ◌++◌, map, length, drop, slice_index, slice_index_or}
use Rattle.bounds.specs.declared.row.Row.{Row}
use Rattle.delays.specs.Kind.{Kind}
use Rattle.network.specs.declared.link.Link.{Link}
use Rattle.network.specs.Bounds.{ExactBound, Bounds, floor_of}
use Rattle.network.specs.Chains.{ChainIn}
use Rattle.network.specs.Links.{HasWord, Names}
use Rattle.relaxation.specs.Rows.{exact_of, force}
use Rattle.relaxation.specs.Spreads.{back}
use Rattle.relaxation.specs.Stars.{numbered_at}

-- the word is that of a link that names the bound
abbrev pub IsWordOf : (k : Kind) → (rows posted : List Row) → ℕ → ExactBound k → Type 0
IsWordOf k rows posted word b = (link : Link) × HasWord link word × Names k (map (exact_of k) rows) (map (exact_of k) posted) link b

-- the words name the bounds of a chain, which begins with the posted bound where there is one
pub record ChainNamed (k : Kind) (n : ℕ) (rows posted : List Row) (words : List ℕ) : Type 0 where
  pub row : Bounds k
  pub chain : ChainIn k (force k n (rows ++ posted)) row
  pub count : length row ≡ length words
  pub upto : length words ≤ n
  pub named : (i : ℕ) → i < length words → IsWordOf k rows posted (slice_index words i) (slice_index_or row i (floor_of k 0))
  pub first : (posted ≡ []) ⊎ (slice_index words 0 ≡ 3 * 2 ^ 30)

-- the last c of 128 places
abbrev pub last_words : List ℕ → ℕ → List ℕ
last_words places c = drop (128 - c) places

-- a chain of c bounds is named in the last c of the places
pub record ChainFound (k : Kind) (n : ℕ) (rows posted : List Row) (places : List ℕ) (c : ℕ) : Type 0 where
  pub few : c ≤ n
  pub size : length (last_words places c) ≡ c
  pub named : ChainNamed k n rows posted (last_words places c)

module _ (k : Kind) (rows : List Row) (over : List ℕ) where
  -- the bound whose number is noted for the point
  abbrev pub noted : ℕ → ExactBound k
  noted p = numbered_at k rows (slice_index over p) p

  -- a step back from p, to q: the word is that of the bound noted for p, and q is its left point
  pub record StepBack (p word q : ℕ) : Type 0 where
    pub named : (posted : List Row) → IsWordOf k rows posted word (noted p)
    pub left : q ≡ (noted p).left

  -- so many steps back from p lead to the end, and no fewer do
  abbrev pub WayBack : (end steps p : ℕ) → Type 0
  WayBack end zero p = p ≡ end
  WayBack end (suc j) p = (p < 128) × (p ≡ end → ⊥) × WayBack end j (noted p).left

  -- so many steps back from the root lead to p, and the words of their bounds stand in the 128 places, the first one's last
  pub record Written (root : ℕ) (places : List ℕ) (steps p : ℕ) : Type 0 where
    pub long : length places ≡ 128
    pub named : (posted : List Row) (j : ℕ) → j < steps → IsWordOf k rows posted (slice_index places (127 - j)) (noted (back noted j root))
    pub reached : p ≡ back noted steps root

  -- what going back from a point to the end makes of the places, of which so many are written: where so many steps lead there, the words
  -- of their bounds are written before the others
  abbrev pub WentBack : (end from written : ℕ) → (before after : List ℕ) → (count : ℕ) → Type 0
  WentBack end from written before after count =
      (root steps : ℕ) → WayBack end steps from → Written root before written from → (count ≡ written + steps) × Written root after count end
