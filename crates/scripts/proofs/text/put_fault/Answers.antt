use Rattle.scripts.proofs.Putting.{puts_same, puts_more}
use Rattle.scripts.proofs.text.put_fault.Goals as goal

pub returns-clause-puts : goal.returns-clause-puts
returns-clause-puts c =
    puts_same
    (puts_more c.put_byte-at.ensures (puts_more c.put_count-at.ensures
    (puts_more c.put_byte-at-2.ensures (puts_more c.put_byte-at-3.ensures c.put_count.ensures))))
    (cc (c.from.ensures, c.from-2.ensures))
