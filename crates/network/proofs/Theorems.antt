-- The theorems, subject by subject. Assumes nothing.
use Rattle.delays.specs.Kind.{Kind, Lawful}
use Rattle.network.specs.Walks.{WalkTheory}
use Rattle.network.specs.Chains.{ChainTheory}
use Rattle.network.specs.Earliest.{EarliestTheory}
use Rattle.network.specs.Consistency.{Consistency}
use Rattle.network.proofs.Walking.{walk_bounds, walk_bounds_below, chain_refutes}
use Rattle.network.proofs.Shortening.{walk_shortens, earliest_reached, earliest_least, earliest_one}
use Rattle.network.proofs.Nearness.{path_short, earliest_near}
use Rattle.network.proofs.Turning.{chain_turns, chain_from_posted}
use Rattle.network.proofs.Settling.{chain_or_solution, chain_free_is_met}
use Rattle.network.proofs.Existing.{chain_or_earliest}

module _ {k : Kind} (laws : Lawful k) where
  pub walk_theory : WalkTheory k
  walk_theory = record { bounds = walk_bounds laws; below = walk_bounds_below laws; shortens = walk_shortens laws; short = path_short laws }

  pub chain_theory : ChainTheory k
  chain_theory = record { refutes = chain_refutes laws; turns = chain_turns laws; posted = chain_from_posted laws }

  pub earliest_theory : EarliestTheory k
  earliest_theory = record { reached = earliest_reached laws; least = earliest_least laws; one = earliest_one laws; near = earliest_near laws }

  pub consistency : Consistency k
  consistency = record { either = chain_or_solution laws; free = chain_free_is_met laws; earliest = chain_or_earliest laws }
