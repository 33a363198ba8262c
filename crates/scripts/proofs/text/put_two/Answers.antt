use Rattle.std.proofs.Common.{◌/◌, arith}
use Rattle.scripts.proofs.Putting.{puts_figure, puts_last}
use Rattle.scripts.proofs.Widths.{one_digit, digit_more}
use Rattle.scripts.proofs.text.put_two.Goals as goal

pub put_digit-requires-clause-room : goal.put_digit-requires-clause-room
put_digit-requires-clause-room c = omega (arith, one_digit c.args.n (omega arith))

pub put_digit-at-requires-clause-room : goal.put_digit-at-requires-clause-room
put_digit-at-requires-clause-room c = omega (arith, one_digit c.args.n (omega arith))

pub put_digit-requires-2-clause-room : goal.put_digit-requires-2-clause-room
put_digit-requires-2-clause-room c = omega (arith, digit_more c.args.n (omega arith) (omega arith), one_digit (c.args.n / 10) (omega arith))

pub returns-then-n-lt10 : goal.returns-then-n-lt10
returns-then-n-lt10 c = puts_figure c.args.n (omega arith) c.put_digit.ensures

pub returns : goal.returns
returns c =
    puts_last c.args.n (omega arith) (omega arith) (puts_figure (c.args.n / 10) (omega arith) c.put_digit-at.ensures) c.put_digit-2.ensures
