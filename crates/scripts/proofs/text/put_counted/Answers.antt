use Rattle.scripts.proofs.Putting.{puts_more}
use Rattle.scripts.proofs.text.put_counted.Goals as goal

pub returns-clause-puts : goal.returns-clause-puts
returns-clause-puts c = puts_more c.put_byte-at.ensures c.put_count.ensures
