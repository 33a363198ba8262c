use Rattle.std.proofs.Common.{map, length}
use Rattle.network.specs.Walks.{Apart}
use Rattle.network.proofs.chain.lefts_apart.Given as goal

-- the left points of what is left are apart exactly when those of the whole row are
abbrev pub invariant-loop-edge : goal.invariant-loop-edge
invariant-loop-edge g l =
    (Apart (map (λ e. e.left) l.rest) → Apart (map (λ e. e.left) l.row))
    × (Apart (map (λ e. e.left) l.row) → Apart (map (λ e. e.left) l.rest))

abbrev pub decreases-loop-edge : goal.decreases-loop-edge
decreases-loop-edge g l = length l.rest
