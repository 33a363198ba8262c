-- The two sizes that kinds share. Assumes nothing.
use Rattle.std.specs.Prelude.{ℕ}

-- the greatest size of a small part
abbrev pub small_part : ℕ
small_part = 500_000_000

-- the greatest size of a number that a value holds
abbrev pub number_reach : ℕ
number_reach = 1_099_511_627_776
