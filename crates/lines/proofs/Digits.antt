-- Digits taken in one by one, from the first: what they give is what they write, and how large it is. Assumes nothing.
use Rattle.std.proofs.Common.{◌≡◌, ℕ, ◌+◌, ◌*◌, ◌^◌, ◌<◌, ◌≤◌, suc, List, [], ◌∷◌, length, get_or, drop, Some, None, Option, option_map, option_and_then, refl}
use Rattle.std.proofs.Common.{sym, ap, ◌∙◌, mul_comm, mul_assoc, mul-le-mul_right, add-mul, pow-suc, add-one, arith, lit≤}
use native.Mathlib.Nat.{pow-zero, pow-le-pow_left, pow-le-pow_right}
use Rattle.std.proofs.lemmas.List.{at_drop_more}
use Rattle.lines.specs.Digits.{digit, digits_value}

-- the number of digits that stand after those of n, taken in one by one from the first
abbrev pub digits_after : ℕ → ℕ → List ℕ → Option ℕ
digits_after base n [] = Some n
digits_after base n (c ∷ cs) = option_and_then (λ d. digits_after base (n * base + d) cs) (digit base c)

-- n and its digit d are moved up by the digits still to come
moved_up : (base n d m k : ℕ) → (n * base + d) * base ^ k + m ≡ n * base ^ suc k + (d * base ^ k + m)
moved_up base n d m k =
    let higher : n * base ^ suc k ≡ n * base * base ^ k = ap (λ p. n * p) (pow-suc base k ∙ mul_comm (base ^ k) base) ∙ sym (mul_assoc n base (base ^ k)) in
    omega (arith, higher, add-mul (n * base) d (base ^ k))

-- digits taken in after n are worth what they write, and n is moved up by all of them
after_is : (base n : ℕ) (cs : List ℕ) → digits_after base n cs ≡ option_map (λ m. n * base ^ length cs + m) (digits_value base cs)
after_is base n [] = let once : n * base ^ 0 ≡ n * 1 = ap (λ p. n * p) (pow-zero base) in ap Some (omega (arith, once))
after_is base n (c ∷ cs) = at_digit (digit base c) (λ d. after_is base (n * base + d) cs)
  where
    worth : (d : ℕ) (o : Option ℕ) → option_map (λ m. (n * base + d) * base ^ length cs + m) o
        ≡ option_map (λ m. n * base ^ suc (length cs) + m) (option_map (λ m. d * base ^ length cs + m) o)
    worth d None = refl
    worth d (Some m) = ap Some (moved_up base n d m (length cs))

    at_digit : (o : Option ℕ)
        → ((d : ℕ) → digits_after base (n * base + d) cs ≡ option_map (λ m. (n * base + d) * base ^ length cs + m) (digits_value base cs))
        → option_and_then (λ d. digits_after base (n * base + d) cs) o
        ≡ option_map (λ m. n * base ^ suc (length cs) + m) (option_and_then (λ d. option_map (λ m. d * base ^ length cs + m) (digits_value base cs)) o)
    at_digit None rest = refl
    at_digit (Some d) rest = rest d ∙ worth d (digits_value base cs)

-- digits that are taken in after none are worth what they write
pub digits_from_zero : (base : ℕ) (cs : List ℕ) → digits_after base 0 cs ≡ digits_value base cs
digits_from_zero base cs = after_is base 0 cs ∙ same (digits_value base cs)
  where
    same : (o : Option ℕ) → option_map (λ m. 0 * base ^ length cs + m) o ≡ o
    same None = refl
    same (Some m) = ap Some (omega arith)

-- what the digits from i on give is what the one at i says
pub digit_next : (base n i : ℕ) (ds : List ℕ) (o : Option ℕ) → i < length ds → o ≡ digit base (get_or ds i 0)
    → digits_after base n (drop i ds) ≡ option_and_then (λ d. digits_after base (n * base + d) (drop (i + 1) ds)) o
digit_next base n i ds o h e =
    at_drop_more (digits_after base n) ds i 0 h ∙ ap (option_and_then (λ d. digits_after base (n * base + d) (drop (i + 1) ds))) (sym e)

-- i digits and one more are below the base's next power
pub digit_below : (base n d i : ℕ) → n < base ^ i → d < base → n * base + d < base ^ (i + 1)
digit_below base n d i h k =
    let power : base ^ (i + 1) ≡ base ^ i * base = rw add-one (pow-suc base i) in
    let more : (n + 1) * base ≤ base ^ i * base = mul-le-mul_right base (omega arith) in
    omega (arith, add-mul n 1 base)

-- and where they are at most ten, in a base up to sixteen, they are below 2 ^ 40
pub next_fits : (base n d i : ℕ) → base ≤ 16 → i < 10 → n < base ^ i → d < base → n * base + d < 2 ^ 40
next_fits base n d i small few h k =
    let more : i + 1 ≤ 10 = omega arith in
    let p : base ^ (i + 1) ≤ 16 ^ (i + 1) = pow-le-pow_left small (i + 1) in
    let q : 16 ^ (i + 1) ≤ 16 ^ 10 = pow-le-pow_right (lit≤ tt) more in
    let r = digit_below base n d i h k in
    omega arith
