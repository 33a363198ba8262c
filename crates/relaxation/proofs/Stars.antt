-- The bounds in question, one by one: rows that leave points below the limit, posted rows, and floors. Assumes nothing.
use Rattle.std.proofs.Common.{◌≡◌, ℕ, ◌<◌, ◌⊎◌, List, [], ◌++◌, map, length, get_or, ltb, refl, subst, inl, inr, ⊎_elim, ltb-true, arith}
use Rattle.std.specs.List.{All, Contains}
use Rattle.std.proofs.lemmas.Bool.{lt-ltb, le-ltb}
use Rattle.std.proofs.lemmas.List.Elements.{All-contains, All-weaker, Contains-get_or, Contains-append_left, Contains-append_right, Contains-append_cases}
use Rattle.bounds.specs.declared.row.Row.{Row}
use Rattle.delays.specs.Kind.{Kind}
use Rattle.network.specs.Bounds.{ExactBound, Bounds, floor_of, floors}
use Rattle.network.specs.Chains.{ChainIn}
use Rattle.network.proofs.Counting.{all_counting}
use Rattle.network.proofs.InForce.{floor_held}
use Rattle.relaxation.specs.Rows.{exact_of, force, Fit}
use Rattle.relaxation.specs.Stars.{below, in_question}
use Rattle.relaxation.proofs.Members.{map_holds, map_held, filter_holds, filter_held, filter_all, filter_none}

module _ (limit : ℕ) (rows : List Row) where
  -- a row that leaves a point below the limit is one of those below it
  pub below_holds : (r : Row) → Contains rows r → r.left < limit → Contains (below limit rows) r
  below_holds r has low = filter_holds (λ r. ltb r.left limit) rows r has (lt-ltb r.left limit low)

  pub below_held : (r : Row) → Contains (below limit rows) r → Contains rows r × (r.left < limit)
  below_held r has = let both = filter_held (λ r. ltb r.left limit) rows r has in (both.0, ltb-true r.left limit both.1)

-- no row leaves a point below zero, and rows that fit leave points below n
pub below_none : (rows : List Row) → below 0 rows ≡ []
below_none rows = filter_none (λ r. ltb r.left 0) rows (λ r. le-ltb r.left 0 (omega arith))

pub below_all : (k : Kind) (n : ℕ) (rows : List Row) → All (Fit k n) rows → below n rows ≡ rows
below_all k n rows fit = filter_all (λ r. ltb r.left n) rows (λ r has. lt-ltb r.left n (All-contains (Fit k n) rows r fit has).left)

module _ (k : Kind) (n : ℕ) (rows : List Row) where
  -- the bound of each row is in force
  pub force_holds : (r : Row) → Contains rows r → Contains (force k n rows) (exact_of k r)
  force_holds r has = Contains-append_left (map (exact_of k) rows) (floors k n) (exact_of k r) (map_holds (exact_of k) rows r has)

  -- and each bound in force is that of a row, or a floor
  pub force_held : (e : ExactBound k) → Contains (force k n rows) e
      → ((r : Row) × Contains rows r × (exact_of k r ≡ e)) ⊎ ((p : ℕ) × (p < n) × (floor_of k p ≡ e))
  force_held e has =
      let floor = λ (e : ExactBound k). (p : ℕ) × (p < n) × (floor_of k p ≡ e) in
      ⊎_elim (λ h. inl (map_held (exact_of k) rows e h))
      (λ h. inr (All-contains floor (floors k n) e (all_counting floor (floor_of k) 0 n (λ p l u. (p, omega arith, refl))) h))
      (Contains-append_cases (map (exact_of k) rows) (floors k n) e has)

module _ (k : Kind) (n limit : ℕ) (rows posted : List Row) where
  -- the bound of a row that leaves a point below the limit is in question
  pub question_row : (i : ℕ) (r : Row) → i < length rows → (get_or rows i r).left < limit
      → Contains (in_question k n limit rows posted) (exact_of k (get_or rows i r))
  question_row i r low left =
      let row = get_or rows i r in
      let has = below_holds limit rows row (Contains-get_or rows i r low) left in
      force_holds k n (below limit rows ++ posted) row (Contains-append_left (below limit rows) posted row has)

  -- so is that of a posted row
  pub question_posted : (r : Row) → Contains posted r → Contains (in_question k n limit rows posted) (exact_of k r)
  question_posted r has = force_holds k n (below limit rows ++ posted) r (Contains-append_right (below limit rows) posted r has)

  -- and the floor of a point below n
  pub question_floor : (p : ℕ) → p < n → Contains (in_question k n limit rows posted) (floor_of k p)
  question_floor p small = floor_held k n (map (exact_of k) (below limit rows ++ posted)) p small

  -- What holds of all of these holds of each bound in question.
  pub question_each : (holds : ExactBound k → Type 0)
      → ((i : ℕ) (r : Row) → i < length rows → (get_or rows i r).left < limit → holds (exact_of k (get_or rows i r)))
      → ((r : Row) → Contains posted r → holds (exact_of k r)) → ((p : ℕ) → p < n → holds (floor_of k p))
      → (e : ExactBound k) → Contains (in_question k n limit rows posted) e → holds e
  question_each holds of_row of_posted of_floor e has =
      ⊎_elim row (λ f. subst holds f.2 (of_floor f.0 f.1)) (force_held k n (below limit rows ++ posted) e has)
    where
      low : (r : Row) → Contains (below limit rows) r → holds (exact_of k r)
      low r h =
          let both = below_held limit rows r h in
          let at = both.0 in
          subst (λ r. holds (exact_of k r)) at.2 (of_row at.0 r at.1 (rw at.2 both.1))

      row : (r : Row) × Contains (below limit rows ++ posted) r × (exact_of k r ≡ e) → holds e
      row r = subst holds r.2 (⊎_elim (low r.0) (of_posted r.0) (Contains-append_cases (below limit rows) posted r.0 r.1))

  -- each is in force where all rows and the posted ones are
  pub question_in_force : (e : ExactBound k) → Contains (in_question k n limit rows posted) e → Contains (force k n (rows ++ posted)) e
  question_in_force =
      let all = rows ++ posted in
      question_each (Contains (force k n all))
      (λ i r low left. force_holds k n all _ (Contains-append_left rows posted _ (Contains-get_or rows i r low)))
      (λ r has. force_holds k n all r (Contains-append_right rows posted r has)) (floor_held k n (map (exact_of k) all))

  -- so a chain that the bounds in question hold is one that those in force hold
  pub question_chain : (row : Bounds k) → ChainIn k (in_question k n limit rows posted) row → ChainIn k (force k n (rows ++ posted)) row
  question_chain row c = record {
    chain = c.chain;
    held = All-weaker (Contains (in_question k n limit rows posted)) (Contains (force k n (rows ++ posted))) question_in_force row c.held;
  }
