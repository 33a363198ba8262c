use Rattle.std.proofs.Common.{rules}
use Rattle.network.proofs.Checking.{chain_decided, not_past}
use Rattle.network.proofs.Repeating.{rounds_repeat}
use Rattle.network.proofs.Theorems.{chain_theory}
use Rattle.network.proofs.chain.is_chain.Goals as goal

pub returns-then-not-is_cycle-clause-chains : goal.returns-then-not-is_cycle-clause-chains
returns-then-not-is_cycle-clause-chains g c = chain_theory g.met.D.Quantity.lawful

pub returns-then-not-is_cycle-clause-rounds : goal.returns-then-not-is_cycle-clause-rounds
returns-then-not-is_cycle-clause-rounds g c = rounds_repeat g.met.D.Quantity.lawful

pub returns-in_err-sum-clause-chains : goal.returns-in_err-sum-clause-chains
returns-in_err-sum-clause-chains g c = chain_theory g.met.D.Quantity.lawful

pub returns-in_err-sum-clause-rounds : goal.returns-in_err-sum-clause-rounds
returns-in_err-sum-clause-rounds g c = rounds_repeat g.met.D.Quantity.lawful

pub returns-clause-answer : goal.returns-clause-answer
returns-clause-answer g c =
    let d = g.D.Quantity in
    let row = c.args.row.now in
    let sums = c.in_ok-sum.ensures.sums in (
      chain_decided d.kind d.means row _ (d.means c.in_ok-sum.sum) (c.is_cycle.ensures.0 c.if-not-is_cycle.false) sums.0 (search rules),
      λ cycle past. not_past d.kind d.means row sums.1 past,
    )

pub returns-clause-chains : goal.returns-clause-chains
returns-clause-chains g c = chain_theory g.met.D.Quantity.lawful

pub returns-clause-rounds : goal.returns-clause-rounds
returns-clause-rounds g c = rounds_repeat g.met.D.Quantity.lawful
