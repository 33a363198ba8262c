-- Relaxation by rounds, over bounds whose points are below n: it comes to rest, or goes on over a chain. Assumes nothing.
use Rattle.std.proofs.Common.{◌≡◌, ℕ, cond, eqb, ◌⊎◌, [], ◌∷◌, refl, ◌∙◌, inl, inr, ⊎_elim, arith}
use Rattle.std.specs.List.{All, Contains}
use Rattle.std.proofs.lemmas.List.Elements.{All-weaker, Contains-append_right, All-nil, All-cons}
use Rattle.std.proofs.lemmas.Bool.{cases_eq, cases_Bool, cond-true, cond-false, eq-eqb, ne_eqb}
use Rattle.delays.specs.Kind.{Kind, Exact, Lawful}
use Rattle.network.specs.Bounds.{ExactBound, Bounds}
use Rattle.network.specs.Assignments.{Le, Lt}
use Rattle.network.specs.Rounds.{carry}
use Rattle.network.proofs.Orders.{lt_le}

-- the greater of two
greater : (k : Kind) → Exact k → Exact k → Exact k
greater k x y = cond (k.leq x y) y x

module _ {k : Kind} (laws : Lawful k) where
  greater_is : (x y : Exact k) → ((greater k x y ≡ y) × Le k x y) ⊎ ((greater k x y ≡ x) × Lt k y x)
  unfolding greater
  greater_is x y = ⊎_elim (λ e. inl (cond-true (k.leq x y) y x e, e)) (λ e. inr (cond-false (k.leq x y) y x e, e)) (cases_Bool (k.leq x y))

  greater_left : (x y : Exact k) → Le k x (greater k x y)
  greater_left x y = ⊎_elim (λ h. rw h.0 h.1) (λ h. rw h.0 (laws.reflexive x)) (greater_is x y)

  greater_right : (x y : Exact k) → Le k y (greater k x y)
  greater_right x y = ⊎_elim (λ h. rw h.0 (laws.reflexive y)) (λ h. rw h.0 (lt_le laws y x h.1)) (greater_is x y)

  module _ (old : ℕ → Exact k) where
    -- what a bound carries to its right point
    abbrev brings : ExactBound k → Exact k
    brings b = carry k (old b.left) b.delay

    -- the greatest of the old label of p and of what the bounds with the right point p carry to it
    pub best : Bounds k → ℕ → Exact k
    best [] p = old p
    best (b ∷ bs) p = cond (eqb b.right p) (greater k (brings b) (best bs p)) (best bs p)

    best_at : (b : ExactBound k) (bs : Bounds k) (p : ℕ) → b.right ≡ p → best (b ∷ bs) p ≡ greater k (brings b) (best bs p)
    unfolding best
    best_at b bs p e = cond-true (eqb b.right p) _ _ (eq-eqb b.right p e)

    best_off : (b : ExactBound k) (bs : Bounds k) (p : ℕ) → (b.right ≡ p → ⊥) → best (b ∷ bs) p ≡ best bs p
    unfolding best
    best_off b bs p ne = cond-false (eqb b.right p) _ _ (ne_eqb b.right p ne)

    best_more : (b : ExactBound k) (bs : Bounds k) (p : ℕ) → Le k (best bs p) (best (b ∷ bs) p)
    best_more b bs p =
        ⊎_elim (λ e. rw (best_at b bs p e) (greater_right (brings b) (best bs p)))
        (λ ne. rw (best_off b bs p ne) (laws.reflexive (best bs p))) (cases_eq b.right p)

    -- a label never falls
    pub best_old : (bs : Bounds k) (p : ℕ) → Le k (old p) (best bs p)
    unfolding best
    best_old [] p = laws.reflexive (old p)
    best_old (b ∷ bs) p = laws.transitive _ _ _ (best_old bs p) (best_more b bs p)

    -- and is at least what each bound carries to it
    pub best_carried : (bs : Bounds k) → All (λ b. Le k (brings b) (best bs b.right)) bs
    best_carried [] = All-nil (λ x. Le k (brings x) (best [] x.right))
    best_carried (b ∷ bs) =
        All-cons (λ x. Le k (brings x) (best (b ∷ bs) x.right)) b bs
        (rw (best_at b bs b.right refl) (greater_left (brings b) (best bs b.right)))
        (All-weaker (λ x. Le k (brings x) (best bs x.right)) (λ x. Le k (brings x) (best (b ∷ bs) x.right))
        (λ x h. laws.transitive _ _ _ h (best_more b bs x.right)) bs (best_carried bs))

    -- where a new label came from
    pub record Came (bs : Bounds k) (p : ℕ) : Type 0 where
      pub over : ExactBound k
      pub held : Contains bs over
      pub reaches : over.right ≡ p
      pub value : best bs p ≡ brings over

    pub best_from : (bs : Bounds k) (p : ℕ) → (best bs p ≡ old p) ⊎ Came bs p
    unfolding best
    best_from [] p = inl refl
    best_from (b ∷ bs) p = go (cases_eq b.right p) (greater_is (brings b) (best bs p)) (best_from bs p)
      where
        later : best (b ∷ bs) p ≡ best bs p → (best bs p ≡ old p) ⊎ Came bs p → (best (b ∷ bs) p ≡ old p) ⊎ Came (b ∷ bs) p
        later e (inl o) = inl (e ∙ o)
        later e (inr c) = inr (record { over = c.over; held = Contains-append_right (b ∷ []) bs c.over c.held; reaches = c.reaches; value = e ∙ c.value })

        go : (b.right ≡ p) ⊎ (b.right ≡ p → ⊥)
            → ((greater k (brings b) (best bs p) ≡ best bs p) × Le k (brings b) (best bs p))
            ⊎ ((greater k (brings b) (best bs p) ≡ brings b) × Lt k (best bs p) (brings b))
            → (best bs p ≡ old p) ⊎ Came bs p → (best (b ∷ bs) p ≡ old p) ⊎ Came (b ∷ bs) p
        go (inr ne) g rest = later (best_off b bs p ne) rest
        go (inl e) (inl g) rest = later (best_at b bs p e ∙ g.0) rest
        go (inl e) (inr g) rest = inr (record { over = b; held = (0, omega arith, refl); reaches = e; value = best_at b bs p e ∙ g.0 })
