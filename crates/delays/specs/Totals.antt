-- What a row of delays comes to. Assumes nothing.
use Rattle.std.specs.Prelude.{◌≡◌, ℕ, ◌<◌, ◌≤◌, List, [], ◌∷◌, map, length, take, Some, None, Option, All, is_some, true}
use Rattle.delays.specs.Kind.{Kind, Exact, Within}

-- the sum of a row of delays
abbrev pub total : (k : Kind) → List (Exact k) → Exact k
total k [] = k.zero
total k (x ∷ xs) = k.sum x (total k xs)

-- the sum of what the first n of a row mean
abbrev pub total_upto : {Y : Type 0} (k : Kind) → (Y → Exact k) → List Y → ℕ → Exact k
total_upto k each row n = total k (map each (take n row))

-- the sum of what a row means, where each sum on the way to it is within the reach; or nothing where one of them is not
abbrev pub Summed : {X Y : Type 0} (k : Kind) → (X → Exact k) → (Y → Exact k) → List Y → Option X → Type 0
Summed k means each row None = (n : ℕ) × (n ≤ length row) × (k.reach < k.size (total_upto k each row n))
Summed k means each row (Some v) = (means v ≡ total k (map each row)) × ((n : ℕ) → n ≤ length row → Within k (total_upto k each row n))

-- a row of at most 256, none of which means a delay of a size above the greatest, has an answer
abbrev pub SmallAnswered : {Y R : Type 0} (k : Kind) → (Y → Exact k) → List Y → Option R → Type 0
SmallAnswered k each row r = length row ≤ 256 → All (λ x. k.size (each x) ≤ k.greatest) row → is_some r ≡ true
