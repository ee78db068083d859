use Rattle.std.proofs.Common.{◌≡◌, ◌≤◌, ◌-◌, ◌&&◌, not}
use Rattle.numbered_nodes.specs.Bits.{has}
use Rattle.numbered_nodes.specs.Chains.{below}
use Rattle.mod_graph.specs.Graph.{ids}
use Rattle.mod_graph.proofs.lists.listed.Given as goal

abbrev pub invariant-loop-place : goal.invariant-loop-place
invariant-loop-place l = record { within : l.from ≤ l.count; listed : ids l.nodes ≡ below l.from (λ k. not (has l.skipped k) && has l.placed k) }

abbrev pub decreases-loop-place : goal.decreases-loop-place
decreases-loop-place l = l.count - l.from
