use Rattle.listings.proofs.Back.{text_returns}
use Rattle.listings.proofs.text.entry_text.Goals as goal

pub returns : goal.returns
returns c = record { value = c.printed.ensures; back = text_returns }
