-- What making a bound answers: a row whose numbers are in range makes one, and four numbers have one answer. Assumes nothing.
use Rattle.std.proofs.Common.{◌≡◌, ℕ, true, ℤ, pos, is_ok, Ok, Err, Result, refl, arith}
use Rattle.std.proofs.lemmas.Int.{ints}
use Rattle.bounds.specs.Range.{Sound}
use Rattle.bounds.specs.Making.{Made, Says, FirstOut, row_of}
use Rattle.bounds.specs.declared.row.Row.{Row}
use Rattle.bounds.specs.declared.bound.Bound.{Bound}
use Rattle.bounds.specs.declared.fault.BoundFault.{BoundFault}
use Rattle.bounds.specs.declared.fault.BoundFault.TheVariants.{LeftPoint, RightPoint, PartT, PartS}

-- a row in range makes a bound
pub sound_makes : (row : Row) (r : Result Bound BoundFault) → Sound row → Made (pos row.left) (pos row.right) row.t row.s r → is_ok r ≡ true
sound_makes row (Ok b) range made = refl
sound_makes row (Err LeftPoint) range out = absurd (out (omega (arith, ints), omega (arith, ints)))
sound_makes row (Err RightPoint) range out = absurd (out.1 (omega (arith, ints), omega (arith, ints)))
sound_makes row (Err PartT) range out = absurd (out.2 range.2)
sound_makes row (Err PartS) range out = absurd (out.3 range.3)

-- two answers tell the same: the four numbers of one bound, or one fault
abbrev pub SameBound : {E : Type 0} → Result Bound E → Result Bound E → Type 0
SameBound (Ok b) (Ok d) = row_of b ≡ row_of d
SameBound (Ok b) (Err f) = ⊥
SameBound (Err e) (Ok d) = ⊥
SameBound (Err e) (Err f) = e ≡ f

row_at : ℕ → ℕ → ℤ → ℤ → Row
row_at l r t s = record { left = l; right = r; t = t; s = s }

-- a row is its four numbers
pub row_same : (a b : Row) → a.left ≡ b.left → a.right ≡ b.right → a.t ≡ b.t → a.s ≡ b.s → a ≡ b
unfolding row_at
row_same a b l r t s = let same : row_at a.left a.right a.t a.s ≡ row_at b.left b.right b.t b.s = cc in same

module _ (left right t s : ℤ) where
  -- one row says four numbers
  says_once : (a b : Row) → Says a left right t s → Says b left right t s → a ≡ b
  says_once a b p q = row_same a b (cc) (cc) (cc) (cc)

  -- no number of a row in range is out of range
  none_out : (row : Row) (e : BoundFault) → Sound row → Says row left right t s → FirstOut left right t s e → ⊥
  none_out row e range says out =
      let never = sound_makes row (Err e) range (rw (says.left_is, says.right_is, says.t_is, says.s_is) out) in
      let z : ◌≡◌ {A = ℕ} 0 1 = cc in
      omega arith

  -- one number is the first that is out of range
  first_once : (e f : BoundFault) → FirstOut left right t s e → FirstOut left right t s f → e ≡ f
  first_once LeftPoint LeftPoint h g = refl
  first_once LeftPoint RightPoint h g = absurd (h g.0)
  first_once LeftPoint PartT h g = absurd (h g.0)
  first_once LeftPoint PartS h g = absurd (h g.0)
  first_once RightPoint LeftPoint h g = absurd (g h.0)
  first_once RightPoint RightPoint h g = refl
  first_once RightPoint PartT h g = absurd (h.1 g.1)
  first_once RightPoint PartS h g = absurd (h.1 g.1)
  first_once PartT LeftPoint h g = absurd (g h.0)
  first_once PartT RightPoint h g = absurd (g.1 h.1)
  first_once PartT PartT h g = refl
  first_once PartT PartS h g = absurd (h.2 g.2)
  first_once PartS LeftPoint h g = absurd (g h.0)
  first_once PartS RightPoint h g = absurd (g.1 h.1)
  first_once PartS PartT h g = absurd (g.2 h.2)
  first_once PartS PartS h g = refl

  -- four numbers have one answer
  pub made_once : (q r : Result Bound BoundFault) → Made left right t s q → Made left right t s r → SameBound q r
  made_once (Ok b) (Ok d) h g = says_once (row_of b) (row_of d) h g
  made_once (Ok b) (Err e) h g = none_out (row_of b) e b.sound h g
  made_once (Err e) (Ok b) h g = none_out (row_of b) e b.sound g h
  made_once (Err e) (Err f) h g = first_once e f h g
