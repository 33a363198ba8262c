-- What holds of the sizes that kinds share. Assumes nothing.
use Rattle.std.specs.Prelude.{ℕ, ◌*◌, ◌≤◌, max}
use Rattle.std.proofs.Common.{arith}
use Rattle.delays.specs.Sizes.{small_part, number_reach}

-- the reach has room for 256 delays of the size of a small part
pub small_room : 256 * small_part ≤ number_reach
small_room = omega arith

-- the larger of two sizes is within what both are within
pub max_within : {m n k : ℕ} → m ≤ k → n ≤ k → max m n ≤ k
max_within h i = omega arith
