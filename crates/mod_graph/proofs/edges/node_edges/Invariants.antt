use Rattle.std.proofs.Common.{◌≡◌, take}
use Rattle.std.specs.Prelude.{map}
use Rattle.numbered_nodes.specs.Edges.{lists}
use Rattle.mod_graph.specs.Targets as spec
use Rattle.mod_graph.proofs.edges.node_edges.Given as goal

abbrev pub invariant-loop-entry : goal.invariant-loop-entry
invariant-loop-entry l = lists l.rows.items ≡ map (spec.node_targets l.numbers) (take l.entry-index l.entries)
