use Rattle.std.proofs.Common.{drop}
use Rattle.network.specs.Walks.{Walk}
use Rattle.network.specs.Edges.{bounds_of}
use Rattle.network.proofs.walk.leads.Given as goal

-- what is left leads on exactly when the whole row leads
abbrev pub invariant-loop-edge : goal.invariant-loop-edge
invariant-loop-edge g l =
    let bounds = bounds_of g.D.Quantity.kind g.D.Quantity.means in
    (Walk l.at (bounds (drop l.edge-index l.row)) l.to → Walk l.from (bounds l.row) l.to)
    × (Walk l.from (bounds l.row) l.to → Walk l.at (bounds (drop l.edge-index l.row)) l.to)
