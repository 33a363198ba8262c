use Rattle.scripts.proofs.Putting.{puts_more}
use Rattle.scripts.proofs.text.put_count.Goals as goal

pub returns : goal.returns
returns c = puts_more c.put_byte-at.ensures c.put_natural.ensures
