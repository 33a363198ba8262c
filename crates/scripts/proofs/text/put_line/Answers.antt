use Rattle.scripts.proofs.Putting.{puts_more}
use Rattle.scripts.proofs.text.put_line.Goals as goal

pub returns-clause-puts : goal.returns-clause-puts
returns-clause-puts c =
    puts_more (puts_more c.put_natural-at.ensures (puts_more c.put_byte-at.ensures c.put_answer-at.ensures.puts)) c.put_byte.ensures
