-- A field that is too long holds nothing. Assumes nothing.
use Rattle.std.specs.Prelude.{◌≡◌, ℕ, ◌<◌, List, [], ◌∷◌, length, None, pos, neg_ℤ, option_map, refl}
use Rattle.std.proofs.Common.{eqb, ap, arith}
use Rattle.std.proofs.lemmas.Bool.{lt-leb, ne_eqb, and_right, cond-false, cond_both}
use Rattle.lines.specs.Decimal.{natural, number}
use Rattle.lines.specs.Hex.{word}

-- more than ten digits are no number
natural_long : (ds : List ℕ) → 10 < length ds → natural ds ≡ None
natural_long ds h = cond-false _ _ _ (and_right _ _ (lt-leb (length ds) 10 h))

-- a field of more than eleven bytes is no number
pub number_long : (f : List ℕ) → 11 < length f → number f ≡ None
number_long [] h = refl
number_long (c ∷ cs) h =
    cond_both (eqb c 45) _ _ (λ o. o ≡ None)
    (λ _. ap (option_map (λ n. neg_ℤ (pos n))) (natural_long cs (omega arith)))
    (λ _. ap (option_map pos) (natural_long (c ∷ cs) (omega arith)))

-- a field of more than eight bytes is no word
pub word_long : (f : List ℕ) → 8 < length f → word f ≡ None
word_long f h = cond-false _ _ _ (ne_eqb (length f) 8 (λ e. omega arith))
