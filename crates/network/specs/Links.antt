-- The bounds of a chain by name, and their words. What a word is read as is told by the writing alone. Assumes nothing.
use Rattle.std.specs.Prelude.{◌≡◌, ℕ, ◌+◌, ◌*◌, ◌^◌, ◌<◌, ◌≤◌, [], ◌∷◌, Ok, Err, Result}
use Rattle.delays.specs.Kind.{Kind}
use Rattle.network.specs.Bounds.{ExactBound, Bounds, Numbered, floor_of}
use Rattle.network.specs.declared.link.Link.{Link}
use Rattle.network.specs.declared.link.Link.TheVariants.{Book, Floor, Posted}

-- the two top bits: 01 for a bound of the book, 10 for a floor, 11 for the posted bound
abbrev pub top_bits : Link → ℕ
top_bits (Book number) = 1
top_bits (Floor point) = 2
top_bits Posted = 3

-- the 30 bits below them: the bound's number, the floor's point, or zero
abbrev pub low_bits : Link → ℕ
low_bits (Book number) = number
low_bits (Floor point) = point
low_bits Posted = 0

-- the link has the word w: its number has room below the two top bits
pub record HasWord (l : Link) (w : ℕ) : Type 0 where
  pub room : low_bits l < 2 ^ 30
  pub value : w ≡ top_bits l * 2 ^ 30 + low_bits l

-- the word of the link, or its refusal exactly where the link has none
abbrev pub WordOf : {E : Type 0} → Link → Result ℕ E → Type 0
WordOf l (Ok w) = HasWord l w
WordOf l (Err e) = 2 ^ 30 ≤ low_bits l

-- the link that has the word w, or a refusal exactly where none has it
abbrev pub LinkOf : {E : Type 0} → ℕ → Result Link E → Type 0
LinkOf w (Ok l) = HasWord l w
LinkOf w (Err e) = (l : Link) → HasWord l w → ⊥

-- the bound that the link names, over the bounds of the book and the one that was posted, a list of one or none
abbrev pub Names : (k : Kind) → Bounds k → Bounds k → Link → ExactBound k → Type 0
Names k book posted (Book number) b = Numbered book number b
Names k book posted (Floor point) b = b ≡ floor_of k point
Names k book posted Posted b = posted ≡ b ∷ []

-- The theorems.

-- a link has one word at most
abbrev pub OneWord : Type 0
OneWord = (l : Link) (v w : ℕ) → HasWord l v → HasWord l w → v ≡ w

-- different links have different words
abbrev pub OneLink : Type 0
OneLink = (l m : Link) (w : ℕ) → HasWord l w → HasWord m w → l ≡ m
