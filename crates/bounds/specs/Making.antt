-- What making a bound of four numbers answers. Assumes nothing.
use Rattle.std.specs.Prelude.{◌≡◌, ℤ, pos, Ok, Err, Result}
use Rattle.bounds.specs.Range.{Point, Part}
use Rattle.bounds.specs.declared.row.Row.{Row}
use Rattle.bounds.specs.declared.bound.Bound.{Bound}
use Rattle.bounds.specs.declared.fault.BoundFault.{BoundFault}
use Rattle.bounds.specs.declared.fault.BoundFault.TheVariants.{LeftPoint, RightPoint, PartT, PartS}

-- the four numbers of a bound
abbrev pub row_of : Bound → Row
row_of b = b.row

-- the row has these four numbers
pub record Says (r : Row) (left right t s : ℤ) : Type 0 where
  pub left_is : pos r.left ≡ left
  pub right_is : pos r.right ≡ right
  pub t_is : r.t ≡ t
  pub s_is : r.s ≡ s

-- the named number is out of range, and those before it are not
abbrev pub FirstOut : ℤ → ℤ → ℤ → ℤ → BoundFault → Type 0
FirstOut left right t s LeftPoint = Point left → ⊥
FirstOut left right t s RightPoint = Point left × (Point right → ⊥)
FirstOut left right t s PartT = Point left × Point right × (Part t → ⊥)
FirstOut left right t s PartS = Point left × Point right × Part t × (Part s → ⊥)

-- the bound that says the four numbers, or the first of them that is out of range
abbrev pub Made : ℤ → ℤ → ℤ → ℤ → Result Bound BoundFault → Type 0
Made left right t s (Ok b) = Says (row_of b) left right t s
Made left right t s (Err e) = FirstOut left right t s e
