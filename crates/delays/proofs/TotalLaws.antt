-- What the laws of a kind give of the sums of a row. Assumes nothing.
use Rattle.std.specs.Prelude.{◌≡◌, ℕ, ◌+◌, ◌*◌, ◌<◌, ◌≤◌, List, [], ◌∷◌, ◌++◌, map, length, take}
use Rattle.std.proofs.Common.{get_or, sym, ap, ◌∙◌, subst, inl, inr, mul-le-mul_right, suc-mul, arith, length-take, take_all}
use Rattle.std.specs.List.{All}
use Rattle.std.proofs.lemmas.List.Elements.{All-head, All-tail, All-take}
use Rattle.std.proofs.lemmas.List.{take_more, map_push}
use Rattle.std.proofs.lemmas.Bool.{cases_lt}
use Rattle.delays.specs.Kind.{Kind, Exact, Lawful, Within}
use Rattle.delays.specs.Totals.{total, total_upto}

-- d is the sum of what the first i of the row mean, and each sum on the way to it is within the reach
pub record SummedUpto {Y : Type 0} (k : Kind) (each : Y → Exact k) (row : List Y) (i : ℕ) (d : Exact k) : Type 0 where
  pub sum : d ≡ total_upto k each row i
  pub within : (n : ℕ) → n ≤ i → Within k (total_upto k each row n)

module _ {k : Kind} (laws : Lawful k) where
  -- one delay more
  total_push : (xs : List (Exact k)) (y : Exact k) → total k (xs ++ y ∷ []) ≡ k.sum (total k xs) y
  total_push [] y = laws.comm y k.zero
  total_push (x ∷ xs) y = ap (k.sum x) (total_push xs y) ∙ sym (laws.assoc x (total k xs) y)

  module _ {Y : Type 0} (each : Y → Exact k) (row : List Y) where
    -- the sum so far and the delay of the next one are the sum of one more, within the reach or past it
    pub sum_next : {i : ℕ} {x : Y} {d y : Exact k} → d ≡ total_upto k each row i → i < length row → x ≡ get_or row i x → y ≡ each x
        → k.sum d y ≡ total_upto k each row (i + 1)
    sum_next {i} {x} {d} so_far more read has =
        let pushed : take (i + 1) row ≡ take i row ++ (x ∷ []) = take_more row i x more ∙ ap (λ y. take i row ++ (y ∷ [])) (sym read) in
        let all : total_upto k each row (i + 1) ≡ k.sum (total_upto k each row i) (each x) =
        ap (λ ys. total k (map each ys)) pushed ∙ (ap (total k) (map_push each (take i row) x) ∙ total_push (map each (take i row)) (each x)) in
        ap (k.sum d) has ∙ (ap (λ y. k.sum y (each x)) so_far ∙ sym all)

  module _ {Y : Type 0} {each : Y → Exact k} {row : List Y} where
    pub sum_begins : {d : Exact k} → d ≡ k.zero → SummedUpto k each row 0 d
    sum_begins e = record {
      sum = e;
      within = λ n h. let none : 0 ≡ n = omega arith in subst (λ m. Within k (total_upto k each row m)) none (omega (arith, laws.size_zero));
    }

    pub sum_goes_on : {i : ℕ} {x : Y} {d y next : Exact k} → SummedUpto k each row i d → i < length row → x ≡ get_or row i x
        → next ≡ k.sum d y → y ≡ each x → Within k next → SummedUpto k each row (i + 1) next
    sum_goes_on {i} {next = next} so_far more read added has within =
        let is_next : next ≡ total_upto k each row (i + 1) = added ∙ sum_next each row so_far.sum more read has in
        record {
          sum = is_next;
          within = λ n h. elim (cases_lt i n) [
            | inl above ↦ let same : i + 1 ≡ n = omega arith in subst (λ m. Within k (total_upto k each row m)) same (subst (Within k) is_next within)
            | inr below ↦ so_far.within n below
          ];
        }

    pub sum_ends : {i : ℕ} {d : Exact k} → length row ≤ i → i ≤ length row → SummedUpto k each row i d
        → (d ≡ total k (map each row)) × ((n : ℕ) → n ≤ length row → Within k (total_upto k each row n))
    sum_ends {i} all few so_far = (so_far.sum ∙ ap (λ ys. total k (map each ys)) (take_all i row all), λ n h. so_far.within n (omega arith))

  module _ {Y : Type 0} (each : Y → Exact k) where
    -- it means a delay of a size of at most the greatest
    abbrev IsSmall : Y → Type 0
    IsSmall x = k.size (each x) ≤ k.greatest

    -- the size of a sum is at most the greatest for each one
    pub total_size : (row : List Y) → All IsSmall row → k.size (total k (map each row)) ≤ length row * k.greatest
    total_size [] h = omega (arith, laws.size_zero)
    total_size (x ∷ row) h =
        let here : k.size (each x) ≤ k.greatest = All-head IsSmall x row h in
        omega (arith, laws.size_sum (each x) (total k (map each row)), total_size row (All-tail IsSmall x row h), suc-mul (length row) k.greatest)

    -- The size of a sum grows by at most the greatest with each one, and the reach has room for 256 of these.
    pub small_within : (row : List Y) → 256 * k.greatest ≤ k.reach → length row ≤ 256 → All IsSmall row → (n : ℕ) → Within k (total_upto k each row n)
    small_within row room few small n =
        let part = total_size (take n row) (All-take IsSmall n row small) in
        let long : length (take n row) ≤ 256 = simp length-take (omega arith) in
        omega (arith, part, mul-le-mul_right k.greatest long, room)
