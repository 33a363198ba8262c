-- Where the line of an answer is known to be short. Assumes nothing.
use Rattle.std.specs.Prelude.{◌≤◌, ℤ, unsigned_abs}
use Rattle.delays.specs.Sizes.{number_reach}
use Rattle.scripts.specs.declared.answer.Answer.{Answer}
use Rattle.scripts.specs.declared.answer.Answer.TheVariants.{Time}

-- the size of a part of a time is at most the greatest that a delay's number has
abbrev pub ShortPart : ℤ → Type 0
ShortPart z = unsigned_abs z ≤ number_reach

-- where the answer is a time, both its parts are short
abbrev pub ShortTime : Answer → Type 0
ShortTime (Time point t s) = ShortPart t × ShortPart s
ShortTime answer = Unit {0}
