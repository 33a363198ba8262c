-- The first bound of a book that a plan can't take, and why. Assumes nothing.
use Rattle.std.specs.Prelude.{◌≡◌, ℕ, ◌<◌, List, length, take, Ok, Err, Result, slice_index_or, All}
use Rattle.bounds.specs.declared.row.Row.{Row}
use Rattle.delays.specs.Kind.{Kind, Exact, Unread}
use Rattle.delays.specs.declared.fault.KindFault.{KindFault}
use Rattle.delays.specs.declared.fault.KindFault.TheVariants.{Unread as unread}
use Rattle.plans.specs.declared.fault.PlanFault.{PlanFault}
use Rattle.plans.specs.declared.fault.PlanFault.TheVariants.{Point, Kind as KindRefuses}
use Rattle.plans.specs.Rows.{Fit, Outside}

-- the delay that the row says, or the kind has none with its parts
abbrev pub PairChecked : {X : Type 0} (k : Kind) → (X → Exact k) → Row → Result X KindFault → Type 0
PairChecked k means r (Ok x) = (Unread k r.t r.s → ⊥) × (means x ≡ k.value r.t r.s)
PairChecked k means r (Err e) = Unread k r.t r.s

module _ (k : Kind) (n : ℕ) where
  -- the points of the row are below n, and the kind has no delay with its parts
  pub record NoDelay (r : Row) : Type 0 where
    pub left : r.left < n
    pub right : r.right < n
    pub unread : Unread k r.t r.s

  -- why the row does not fit, where it has the number i
  abbrev pub Misfit : ℕ → Row → PlanFault → Type 0
  Misfit i r (Point place) = (place ≡ i) × Outside n r
  Misfit i r (KindRefuses unread place) = (place ≡ i) × NoDelay r
  Misfit i r fault = ⊥

  -- the row with the number i fits, or why not
  abbrev pub RowChecked : ℕ → Row → Result (Unit {0}) PlanFault → Type 0
  RowChecked i r (Ok _) = Fit k n r
  RowChecked i r (Err e) = Misfit i r e

  -- the rows before the number i fit, and P holds of the row with that number
  pub record FitBefore (rows : List Row) (i : ℕ) (P : Row → Type 0) : Type 0 where
    pub number : i < length rows
    pub before : All (Fit k n) (take i rows)
    pub here : (r : Row) → P (slice_index_or rows i r)

  -- every row fits, or why the first that does not fit does not
  abbrev pub RowsChecked : List Row → Result (Unit {0}) PlanFault → Type 0
  RowsChecked rows (Ok _) = All (Fit k n) rows
  RowsChecked rows (Err e) = (i : ℕ) × FitBefore rows i (λ r. Misfit i r e)
