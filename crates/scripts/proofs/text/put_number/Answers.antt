use Rattle.std.proofs.Common.{◌≡◌, w64, to_z, of_z, to_z-of_z, ℤ, pos, false, subst, ◌∷◌, ap, ◌∙◌, rules}
use Rattle.std.specs.Prelude.{unsigned_abs}
use Rattle.std.specs.Int.Signed.{le_z}
use Rattle.scripts.proofs.Putting.{puts_same, puts_more, negative}
use Rattle.scripts.proofs.text.put_number.Goals as goal

pub returns : goal.returns
returns c =
    let read : to_z w64 (of_z w64 c.args.n) ≡ c.args.n = search (rules, to_z-of_z) in
    let size : c.unsigned_abs.result ≡ unsigned_abs c.args.n = c.unsigned_abs.ensures.value ∙ ap unsigned_abs read in
    let below : le_z (pos 0) c.args.n ≡ false = subst (λ (z : ℤ). le_z (pos 0) z ≡ false) read c.if-n-ge0.false in
    puts_same (puts_more c.put_byte-at.ensures (puts_more c.put_byte-at-2.ensures c.put_natural.ensures))
    (ap (λ xs. 32 ∷ xs) (negative c.args.n c.unsigned_abs.result below size))
