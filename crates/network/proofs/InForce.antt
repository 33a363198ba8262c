-- The bounds in force by number: those of the book, and then the floors. Assumes nothing.
use Rattle.std.proofs.Common.{◌≡◌, ℕ, ◌+◌, ◌-◌, ◌<◌, ◌≤◌, List, get_or, length, ltb, Some}
use Rattle.std.proofs.Common.{None, Option, is_some, IfSome, sym, refl, ap, ◌∙◌, subst, arith, length-append}
use Rattle.std.specs.List.{All, Contains}
use Rattle.std.proofs.lemmas.List.FromFn.{length-map-range_with_len, get_or-map-range_with_len}
use Rattle.std.proofs.lemmas.List.Elements.{All-append, Contains-append_right, Contains-get_or}
use Rattle.std.proofs.lemmas.Bool.{ltb-true, ltb-false}
use Rattle.std.proofs.lemmas.List.{length-map, get_or_append_left, get_or-append_right}
use Rattle.delays.specs.Kind.{Kind, Exact}
use Rattle.network.specs.declared.edge.Edge.{Edge}
use Rattle.network.specs.Edges.{bound_of, bounds_of, InForceRead}
use Rattle.network.specs.Bounds.{ExactBound, Bounds, floor_of, floors, Numbered, bounds_in_force, Inside}
use Rattle.network.proofs.Checking.{numbered_bound}
use Rattle.network.proofs.Counting.{all_counting}

pub force_length : (k : Kind) (n : ℕ) (book : Bounds k) → length (bounds_in_force k n book) ≡ length book + n
force_length k n book = length-append book (floors k n) ∙ ap (λ m. length book + m) (length-map-range_with_len (floor_of k) 0 n)

-- a bound of the book keeps its number
pub force_book : (k : Kind) (n : ℕ) (book : Bounds k) (i : ℕ) (b : ExactBound k) → Numbered book i b → Numbered (bounds_in_force k n book) i b
force_book k n book i b at =
    let low : i < length book = at.0 in
    (omega (arith, force_length k n book), at.1 ∙ sym (get_or_append_left book (floors k n) b i low))

-- the numbers after them are those of the floors
pub force_floor : (k : Kind) (n : ℕ) (book : Bounds k) (i : ℕ) → length book ≤ i → i - length book < n
    → Numbered (bounds_in_force k n book) i (floor_of k (i - length book))
force_floor k n book i past h =
    let p = i - length book in (
      omega (arith, force_length k n book),
      sym (get_or-append_right book (floors k n) (length book) i (floor_of k p) refl past
          ∙ get_or-map-range_with_len (floor_of k) 0 n p p (floor_of k p) h (omega arith)),
    )

module _ {X : Type 0} (k : Kind) (means : X → Exact k) (book : List (Edge X)) (points number : ℕ) (e : Edge X) (low : number < length book) where
  pub book_low : number < length (bounds_in_force k points (bounds_of k means book))
  book_low = omega (arith, force_length k points (bounds_of k means book), length-map book (bound_of k means))

  pub book_read : e ≡ get_or book number e → bound_of k means e ≡ get_or (bounds_in_force k points (bounds_of k means book)) number (bound_of k means e)
  book_read is = (force_book k points (bounds_of k means book) number _ (numbered_bound k means book number e (low, is))).1

-- past the book's numbers an edge that means the floor of the point with the number left over is read, where there is such a point
pub floor_read : {X : Type 0} (k : Kind) (means : X → Exact k) (book : List (Edge X)) (points number : ℕ) (r : Option (Edge X)) → length book ≤ number
    → is_some r ≡ ltb (number - length book) points → IfSome r (λ e. bound_of k means e ≡ floor_of k (number - length book))
    → InForceRead k means book points number r
floor_read k means book points number None past none is =
    omega (arith, ltb-false _ _ (sym none), force_length k points (bounds_of k means book), length-map book (bound_of k means))
floor_read k means book points number (Some e) past some is =
    let bounds = bounds_of k means book in
    let long : length bounds ≡ length book = length-map book (bound_of k means) in
    let low : number - length bounds < points = rw long (ltb-true _ _ (sym some)) in
    let same : floor_of k (number - length bounds) ≡ bound_of k means e = ap (λ m. floor_of k (number - m)) long ∙ sym is in
    subst (Numbered (bounds_in_force k points bounds) number) same (force_floor k points bounds number (rw long past) low)

pub ruleset force_steps = (book_low, book_read, floor_read)

-- the floor of each point below n is in force
pub floor_held : (k : Kind) (n : ℕ) (book : Bounds k) (p : ℕ) → p < n → Contains (bounds_in_force k n book) (floor_of k p)
floor_held k n book p h =
    let long : p < length (floors k n) = rw (length-map-range_with_len (floor_of k) 0 n) h in
    Contains-append_right book (floors k n) (floor_of k p)
    (subst (Contains (floors k n)) (get_or-map-range_with_len (floor_of k) 0 n p p (floor_of k p) h (omega arith))
    (Contains-get_or (floors k n) p (floor_of k p) long))

-- where the points of the book are below n, so are those of the bounds in force
pub force_inside : (k : Kind) (n : ℕ) (book : Bounds k) → 0 < n → All (Inside k n) book → All (Inside k n) (bounds_in_force k n book)
force_inside k n book some inside =
    All-append (Inside k n) book (floors k n) inside (all_counting (Inside k n) (floor_of k) 0 n (λ p l u. record { left = some; right = omega arith }))
