-- A tenth of t + 5, rounded down, is the tenth nearest to t. Assumes nothing.
use Rattle.std.proofs.Common.{ℤ, pos, negsuc, ◌+ℤ◌, ◌*ℤ◌, ◌≤ℤ◌, ◌<ℤ◌, arith}
use Rattle.std.specs.Int.{int_div_euclid}
use Rattle.std.proofs.lemmas.Int.{ints}
use Rattle.scripts.specs.Texts.{hundredths, NearestHundredth}

-- ten of the tenth are no more than the number, and with ten more they are more
tenth_below : (z : ℤ) → (pos 10 *ℤ int_div_euclid z (pos 10)) ≤ℤ z
tenth_below (pos n) = omega (arith, ints)
tenth_below (negsuc n) = omega (arith, ints)

tenth_above : (z : ℤ) → z <ℤ ((pos 10 *ℤ int_div_euclid z (pos 10)) +ℤ pos 10)
tenth_above (pos n) = omega (arith, ints)
tenth_above (negsuc n) = omega (arith, ints)

pub nearest : (t : ℤ) → NearestHundredth t (hundredths t)
nearest t = (tenth_below (t +ℤ pos 5), omega (arith, ints, tenth_above (t +ℤ pos 5)))
