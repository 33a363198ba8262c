-- How a plan stands between two lines, and which values have short parts. Assumes nothing.
use Rattle.std.specs.Prelude.{◌≡◌, true, []}
use Rattle.delays.specs.Kind.{Kind, Exact, Within}
use Rattle.plans.specs.States.{State}
use Rattle.scripts.specs.Room.{ShortPart}

-- a settled plan with no mark open
pub record Ready (s : State) : Type 0 where
  pub settled : s.settled ≡ true
  pub unmarked : s.marks ≡ []

-- a kind whose values have short parts
abbrev pub ShortParts : Kind → Type 0
ShortParts k = (x : Exact k) → Within k x → ShortPart (k.t x) × ShortPart (k.s x)
