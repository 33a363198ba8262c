use Rattle.network.proofs.Checking.{cycle_made, cycle_apart}
use Rattle.network.proofs.chain.is_cycle.Goals as goal

pub returns-then-leads : goal.returns-then-leads
returns-then-leads g c =
    let d = g.D.Quantity in
    let row = c.args.row.now in (
      λ e. cycle_made d.kind d.means row c.first-item.result.left (c.leads.ensures.0 c.if-leads.true) (c.lefts_apart.ensures.0 e),
      λ cycle. c.lefts_apart.ensures.1 (cycle_apart d.kind d.means row cycle),
    )
