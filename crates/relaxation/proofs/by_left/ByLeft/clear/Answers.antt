use Rattle.relaxation.proofs.Listing.{lists_none}
use Rattle.relaxation.proofs.by_left.ByLeft.clear.Goals as goal

pub returns : goal.returns
returns c = lists_none _
