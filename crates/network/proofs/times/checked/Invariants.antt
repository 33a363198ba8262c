use Rattle.std.proofs.Common.{take}
use Rattle.std.specs.List.{All}
use Rattle.network.specs.Checks.{MetWithin}
use Rattle.network.proofs.times.checked.Given as goal

-- the edges so far are met
abbrev pub invariant-loop-number : goal.invariant-loop-number
invariant-loop-number g l = All (MetWithin g.D.Quantity.kind g.D.Quantity.means l.times) (take l.number l.edges)
