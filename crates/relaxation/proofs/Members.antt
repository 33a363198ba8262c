-- What a list of one element contains, and a list that was mapped or filtered. Assumes nothing.
use Rattle.std.proofs.Common.{◌≡◌, zero, suc, List, [], ◌∷◌, map, Bool, true, false, cond, refl, ap, ◌∙◌, arith}
use Rattle.std.specs.List.{All, Contains, filter}
use Rattle.std.proofs.lemmas.List.{get_or-map, length-map}
use Rattle.std.proofs.lemmas.List.Elements.{All-nil, All-cons, All-weaker, All-map, All-filter, All-contains, All-contains_itself, filter_passes}
use Rattle.std.proofs.lemmas.List.Elements.{Contains-append_right}

-- a list of one element contains no other
pub only_one : {X : Type 0} (x y : X) → Contains (x ∷ []) y → x ≡ y
only_one x y (zero, l, e) = e
only_one x y (suc i, l, e) = absurd (omega (arith, l))

module _ {X Y : Type 0} (f : X → Y) (xs : List X) where
  -- the image of an element is an element
  pub map_holds : (x : X) → Contains xs x → Contains (map f xs) (f x)
  map_holds x has = let low = has.1 in (has.0, omega (arith, low, length-map xs f), get_or-map f xs has.0 x (f x) low ∙ ap f has.2)

  -- and each element is the image of one
  pub map_held : (y : Y) → Contains (map f xs) y → (x : X) × Contains xs x × (f x ≡ y)
  map_held y has =
      let image = λ (y : Y). (x : X) × Contains xs x × (f x ≡ y) in
      All-contains image (map f xs) y (All-map image f xs (All-weaker (Contains xs) (λ x. image (f x)) (λ x h. (x, h, refl)) xs (All-contains_itself xs))) has

module _ {X : Type 0} (p : X → Bool) where
  -- an element that passes the test is kept
  pub filter_holds : (xs : List X) (x : X) → Contains xs x → p x ≡ true → Contains (filter p xs) x
  filter_holds xs x has pass = All-contains (λ y. p y ≡ true → Contains (filter p xs) y) xs x (kept xs) has pass
    where
      first : (b : Bool) (y : X) (ys : List X) → b ≡ true → Contains (cond b (y ∷ ys) ys) y
      first b y ys e = rw e (0, omega arith, refl)

      more : (b : Bool) (y : X) (ys : List X) (z : X) → Contains ys z → Contains (cond b (y ∷ ys) ys) z
      more true y ys z h = Contains-append_right (y ∷ []) ys z h
      more false y ys z h = h

      kept : (ys : List X) → All (λ y. p y ≡ true → Contains (filter p ys) y) ys
      kept [] = All-nil (λ y. p y ≡ true → Contains (filter p []) y)
      kept (y ∷ ys) =
          All-cons (λ z. p z ≡ true → Contains (filter p (y ∷ ys)) z) y ys (first (p y) y (filter p ys))
          (All-weaker (λ z. p z ≡ true → Contains (filter p ys) z) (λ z. p z ≡ true → Contains (filter p (y ∷ ys)) z)
          (λ z h e. more (p y) y (filter p ys) z (h e)) ys (kept ys))

  -- and what is kept is an element that passes
  pub filter_held : (xs : List X) (x : X) → Contains (filter p xs) x → Contains xs x × (p x ≡ true)
  filter_held xs x has = (
    All-contains (Contains xs) (filter p xs) x (All-filter p (Contains xs) xs (All-contains_itself xs)) has,
    All-contains (λ y. p y ≡ true) (filter p xs) x (filter_passes p xs) has,
  )

  -- where each element passes all are kept
  pub filter_all : (xs : List X) → ((x : X) → Contains xs x → p x ≡ true) → filter p xs ≡ xs
  filter_all [] h = refl
  filter_all (x ∷ xs) h = rw (h x (0, omega arith, refl), filter_all xs (λ y has. h y (Contains-append_right (x ∷ []) xs y has))) refl

  -- where none passes none is kept
  pub filter_none : (xs : List X) → ((x : X) → p x ≡ false) → filter p xs ≡ []
  filter_none [] h = refl
  filter_none (x ∷ xs) h = rw (h x) (filter_none xs h)
