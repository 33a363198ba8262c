use Rattle.std.proofs.Common.{arith, rules}
use Rattle.scripts.proofs.Putting.{puts_last}
use Rattle.scripts.proofs.Widths.{digit_more}
use Rattle.scripts.proofs.text.+put_natural.Goals as goal

pub put_digit-requires-clause-room : goal.put_digit-requires-clause-room
put_digit-requires-clause-room t c = omega (arith, digit_more c.args.n (omega arith) (omega arith))

pub put_natural-at-requires : goal.put_natural-at-requires
put_natural-at-requires t c =
    (first_of (omega (arith, c.decreases), search (rules, c.decreases)), omega (arith, digit_more c.args.n (omega arith) (omega arith)))

pub returns : goal.returns
returns t c = puts_last c.args.n (omega arith) (omega arith) c.put_natural-at.ensures c.put_digit.ensures
