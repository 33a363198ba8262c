use Rattle.listings.proofs.Once.{one_printing}
use Rattle.listings.proofs.Pieces.{Follows-append, whole_prints}
use Rattle.listings.proofs.tool.Tool.new.Goals as goal

pub returns : goal.returns
returns c = record {
  fresh = c.fresh.ensures;
  law = record { pieces_join = Follows-append; whole_prints = whole_prints; one_printing = one_printing };
}
