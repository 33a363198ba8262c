-- Which numbers a bound may have. Assumes nothing.
use Rattle.std.specs.Prelude.{◌≤◌, ℤ, pos, negsuc, ◌≤ℤ◌}
use Rattle.bounds.specs.declared.row.Row.{Row}

-- a whole number that can be a point: from 0 to 4,095
abbrev pub Point : ℤ → Type 0
Point z = (pos 0 ≤ℤ z) × (z ≤ℤ pos 4095)

-- a whole number that can be a part of a delay: from -500,000,000 to 500,000,000 (`negsuc n` is -1 - n)
abbrev pub Part : ℤ → Type 0
Part z = (negsuc 499999999 ≤ℤ z) × (z ≤ℤ pos 500000000)

-- the row of a bound: two points and two parts
abbrev pub Sound : Row → Type 0
Sound r = (r.left ≤ 4095) × (r.right ≤ 4095) × Part r.t × Part r.s
