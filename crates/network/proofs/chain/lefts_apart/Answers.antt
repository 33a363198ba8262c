use Rattle.std.proofs.lemmas.Bool.{both_ways}
use Rattle.network.proofs.Checking.{apart_first}
use Rattle.network.proofs.chain.lefts_apart.Goals as goal

pub returns-then-not-never_leaves : goal.returns-then-not-never_leaves
returns-then-not-never_leaves g c =
    let d = g.D.Quantity in
    let first = apart_first d.kind d.means c.loop-edge.rest.now c.in-Some.edge.now c.in-Some.others.now c.in-Some.ensures.cases.0 in
    (λ e. cc, λ a. absurd (both_ways _ c.if-not-never_leaves.true (c.never_leaves.ensures.1 (first (c.loop-edge.invariant.1 a)))))
