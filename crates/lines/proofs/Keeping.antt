-- Keeping the first bytes of a list that grows at its end. Assumes nothing.
use Rattle.std.proofs.Common.{◌≡◌, ℕ, zero, suc, List, [], ◌∷◌, ◌++◌, take, refl, ap, ◌∙◌}

-- what was cut off does not matter to the first n
take_front : {X : Type 0} (n : ℕ) (xs ys : List X) → take n (take n xs ++ ys) ≡ take n (xs ++ ys)
take_front zero xs ys = refl
take_front (suc n) [] ys = refl
take_front (suc n) (x ∷ xs) ys = ap (λ l. x ∷ l) (take_front n xs ys)

-- what is kept after one more byte is the front of the whole after it
pub keeps_front : {X : Type 0} (n : ℕ) (kept next whole : List X) (b : X)
    → next ≡ take n (kept ++ (b ∷ [])) → kept ≡ take n whole → next ≡ take n (whole ++ (b ∷ []))
keeps_front n kept next whole b adds e = adds ∙ (ap (λ x. take n (x ++ (b ∷ []))) e ∙ take_front n whole (b ∷ []))
