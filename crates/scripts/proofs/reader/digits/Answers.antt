use Rattle.std.proofs.Common.{◌+◌, ◌*◌, get_or, length, ap, inl, inr, arith}
use Rattle.std.proofs.lemmas.Bool.{cases_lt}
use Rattle.std.proofs.lemmas.List.{get_or_default}
use Rattle.scripts.proofs.Cursors.{digits_step, digits_stop, digits_full}
use Rattle.scripts.proofs.reader.digits.Goals.{then-b-lt48-via-then-b-lt48, then-b-lt48-via-else-b-lt48+then-b-gt57}
use Rattle.scripts.proofs.reader.digits.Goals as goal

pub returns-then-b-lt48 : goal.returns-then-b-lt48
returns-then-b-lt48 c =
    let s = c.args.script.now in
    let end = c.digits.end in
    let is = get_or_default s end 0 10 (omega arith) in
    elim c.then-b-lt48.branch [
      | then-b-lt48-via-then-b-lt48 w ↦ digits_stop s c.args.first c.digits.value end (get_or s end 0) c.digits.invariant is (inl w.if-b-lt48.true)
      | then-b-lt48-via-else-b-lt48+then-b-gt57 w ↦ digits_stop s c.args.first c.digits.value end (get_or s end 0) c.digits.invariant is (inr w.if-b-gt57.true)
    ]

pub digits-preserved : goal.digits-preserved
digits-preserved c =
    let s = c.args.script.now in
    let end = c.digits.end in
    digits_step s c.args.first c.digits.value end (get_or s end 0) (c.digits.value * 10 + c.from.result) c.digits.invariant (omega arith) (omega arith)
    (get_or_default s end 0 10 (omega arith)) c.if-b-lt48.false c.if-b-gt57.false (ap (λ d. c.digits.value * 10 + d) c.from.ensures)

pub returns : goal.returns
returns c =
    let s = c.args.script.now in
    digits_full s c.args.first c.digits.value c.digits.end c.min-limit.result c.digits.invariant c.digits-test.false
    (elim (cases_lt (length s) (c.args.first + 10)) [
      | inl less ↦ inl (omega arith)
      | inr more ↦ inr (omega arith)
    ])
