use Rattle.std.proofs.Common.{None, Some, sym, refl, ◌∙◌, arith, rules}
use native.Mathlib.Nat.{pow-zero}
use Rattle.std.proofs.lemmas.List.{at_drop_all}
use Rattle.lines.proofs.Digits.{digits_after, digits_from_zero, digit_next, digit_below, next_fits}
use Rattle.lines.proofs.number.digits_in.Goals as goal

pub loop-b-init : goal.loop-b-init
loop-b-init c = (refl, omega (arith, pow-zero c.args.base))

pub returns-in_err-d-clause-value : goal.returns-in_err-d-clause-value
returns-in_err-d-clause-value c =
    let base = c.args.base in
    let n = c.loop-b.n in
    let i = c.loop-b.b-index in
    let text = c.args.text.now in
    c.from_residual.ensures
    ∙ (sym (digit_next base n i text None c.loop-b-test.true (sym c.in_err-d.was ∙ c.digit_in.ensures.value))
    ∙ (c.loop-b.invariant.0 ∙ digits_from_zero base text))

pub overflow_mul-n : goal.overflow_mul-n
overflow_mul-n c =
    let fits = next_fits c.args.base c.loop-b.n c.in_ok-d.d c.loop-b.b-index c.requires.small (omega arith) c.loop-b.invariant.1 c.in_ok-d.ensures.bound in
    rw c.from.ensures (omega arith)

pub overflow_add-n : goal.overflow_add-n
overflow_add-n c =
    let fits = next_fits c.args.base c.loop-b.n c.in_ok-d.d c.loop-b.b-index c.requires.small (omega arith) c.loop-b.invariant.1 c.in_ok-d.ensures.bound in
    rw (c.from.ensures, c.from-in-loop-b.ensures) (omega arith)

pub loop-b-preserved : goal.loop-b-preserved
loop-b-preserved c =
    let base = c.args.base in
    let n = c.loop-b.n in
    let i = c.loop-b.b-index in
    let text = c.args.text.now in
    let d = c.in_ok-d.d in
    rw (c.from.ensures, c.from-in-loop-b.ensures) (
      sym (digit_next base n i text (Some d) c.loop-b-test.true (sym c.in_ok-d.was ∙ c.digit_in.ensures.value)) ∙ c.loop-b.invariant.0,
      digit_below base n d i c.loop-b.invariant.1 c.in_ok-d.ensures.bound,
    )

pub returns : goal.returns
returns c = record {
  value = sym (sym (c.loop-b.invariant.0 ∙ digits_from_zero c.args.base c.args.text.now)
      ∙ at_drop_all (digits_after c.args.base c.loop-b.n) c.args.text.now c.loop-b.b-index c.loop-b-test.false);
  bound = search rules;
}
