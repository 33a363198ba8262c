-- A chain begun elsewhere, and the chain that a posted bound closes. Assumes nothing.
use Rattle.std.proofs.Common.{◌≡◌, ℕ, ◌⊎◌, [], ◌∷◌, ◌++◌, sym, refl, ap, ◌∙◌, inl, inr, ⊎_elim, append_assoc, append-nil}
use Rattle.std.proofs.lemmas.List.{map-append}
use Rattle.std.specs.List.{All, Contains}
use Rattle.std.proofs.lemmas.List.Elements.{All-nil, All-cons, All-head, All-tail, All-push}
use Rattle.std.proofs.lemmas.List.Elements.{Contains-append_left, Contains-append_right, Contains-push_cases, Contains-append_cases}
use Rattle.delays.specs.Kind.{Kind, Exact, Lawful}
use Rattle.network.specs.Bounds.{ExactBound, Bounds, floors, bounds_in_force}
use Rattle.network.specs.Assignments.{Solution}
use Rattle.network.specs.Walks.{sum_of, Walk, lefts}
use Rattle.network.specs.Chains.{ChainIn, ChainFrom, ChainTurns, ChainFromPosted}
use Rattle.network.proofs.Counting.{apart_turn}
use Rattle.network.proofs.Walking.{chain_refutes}
use Rattle.network.proofs.Shortening.{sum_of-append}

pub walk_push : {k : Kind} (xs : Bounds k) (x : ExactBound k) (p q : ℕ) → Walk p xs q → x.left ≡ q → Walk p (xs ++ x ∷ []) x.right
walk_push [] x p q w e = (e ∙ sym w, refl)
walk_push (b ∷ bs) x p q w e = (w.0, walk_push bs x b.right q w.1 e)

module _ {k : Kind} (laws : Lawful k) where
  -- the first bound goes to the end
  turn_one : (edges : Bounds k) (x : ExactBound k) (xs : Bounds k) → ChainIn k edges (x ∷ xs) → ChainIn k edges (xs ++ x ∷ [])
  turn_one edges x xs c = let chain = c.chain in record {
    chain = record {
      start = x.right;
      closed = walk_push xs x x.right chain.start chain.closed.1 chain.closed.0;
      apart = rw (map-append (λ b. b.left) xs (x ∷ [])) (apart_turn x.left (lefts xs) chain.apart);
      below = rw (sum_of-append laws xs (x ∷ []), laws.zero_adds_nothing x.delay, laws.comm (sum_of k xs) x.delay) chain.below;
    };
    held = All-push (Contains edges) xs x (All-tail (Contains edges) x xs c.held) (All-head (Contains edges) x xs c.held);
  }

  pub chain_turns : ChainTurns k
  chain_turns edges [] back c = rw (append-nil back) c
  chain_turns edges (x ∷ front) back c =
      let once : ChainIn k edges (front ++ (back ++ x ∷ [])) = rw (append_assoc front back (x ∷ [])) at (turn_one edges x (front ++ back) c) in
      rw (append_assoc back (x ∷ []) front) at (chain_turns edges front (back ++ x ∷ []) once)

  -- the bound b in a row
  abbrev Split : ExactBound k → Bounds k → Type 0
  Split b row = (front : Bounds k) × (back : Bounds k) × (row ≡ front ++ (b ∷ back))

  module _ (old new : Bounds k) (b : ExactBound k) (either : (x : ExactBound k) → Contains new x → Contains old x ⊎ (b ≡ x)) where
    -- a row over the new bounds is one over the old ones, or has b
    old_or_new : (row : Bounds k) → All (Contains new) row → All (Contains old) row ⊎ Split b row
    old_or_new [] h = inl (All-nil (Contains old))
    old_or_new (x ∷ xs) h = go (either x (All-head (Contains new) x xs h)) (old_or_new xs (All-tail (Contains new) x xs h))
      where
        go : Contains old x ⊎ (b ≡ x) → All (Contains old) xs ⊎ Split b xs → All (Contains old) (x ∷ xs) ⊎ Split b (x ∷ xs)
        go (inl f) (inl a) = inl (All-cons (Contains old) x xs f a)
        go (inl f) (inr s) = inr (x ∷ s.0, s.1, ap {B = Bounds k} (λ l. x ∷ l) s.2)
        go (inr e) d = inr ([], xs, ap {B = Bounds k} (λ y. y ∷ xs) (sym e))

    -- A chain without b would be one of the old bounds, which an assignment meets.
    pub from_new : (t : ℕ → Exact k) → Solution k old t → (row : Bounds k) → ChainIn k new row → ChainFrom k new b row
    from_new t s row c = go (old_or_new row c.held)
      where
        go : All (Contains old) row ⊎ Split b row → ChainFrom k new b row
        go (inl a) = absurd (chain_refutes laws old row (record { chain = c.chain; held = a }) t s)
        go (inr p) = record { front = p.0; back = p.1; split = p.2; turned = chain_turns new p.0 (b ∷ p.1) (rw p.2 at c) }

  -- a bound in force after b was posted was in force before, or is b
  pub posted_either : (n : ℕ) (book : Bounds k) (b x : ExactBound k) → Contains (bounds_in_force k n (book ++ b ∷ [])) x
      → Contains (bounds_in_force k n book) x ⊎ (b ≡ x)
  posted_either n book b x has =
      ⊎_elim (λ h. ⊎_elim (λ old. inl (Contains-append_left book (floors k n) x old)) (λ new. inr new) (Contains-push_cases book b x h))
      (λ h. inl (Contains-append_right book (floors k n) x h)) (Contains-append_cases (book ++ b ∷ []) (floors k n) x has)

  pub chain_from_posted : ChainFromPosted k
  chain_from_posted n book b t s row c = from_new (bounds_in_force k n book) (bounds_in_force k n (book ++ b ∷ [])) b (posted_either n book b) t s row c
