use Rattle.std.proofs.Common.{◌≡◌, ℕ, map, get_or, replicate, ap, ◌∙◌, ⊎_elim, arith}
use Rattle.std.proofs.Math.ListN.{get_or-eq_default, length-replicate}
use Rattle.std.proofs.lemmas.Bool.{cases_lt}
use Rattle.std.proofs.lemmas.List.{get_or-map, length-map, get_or-replicate}
use Rattle.relaxation.proofs.spreading.Spreading.new.Goals as goal

-- a list of one element over and over, past which stands the same, has it everywhere
all_same : {X Y : Type 0} (f : X → Y) (x : X) (y : Y) (n i : ℕ) → f x ≡ y → get_or (map f (replicate n x)) i y ≡ y
all_same f x y n i e = ⊎_elim
    (λ low. get_or-map f (replicate n x) i x y (omega (arith, low, length-replicate n x)) ∙ (ap f (get_or-replicate n i x x low) ∙ e))
    (λ past. get_or-eq_default (map f (replicate n x)) y (omega (arith, past, length-map (replicate n x) f, length-replicate n x)))
    (cases_lt i n)

pub returns : goal.returns
returns g c = λ p. all_same g.D.Delay.means c.zero.result g.D.Delay.kind.zero 128 p c.zero.ensures
