use Rattle.std.proofs.Common.{◌≡◌, take}
use Rattle.numbered_nodes.specs.Edges.{lists}
use Rattle.node_groups.specs.Steps.{in_order}
use Rattle.node_groups.proofs.collect.collect.Given as goal

abbrev pub invariant-loop-node : goal.invariant-loop-node
invariant-loop-node l = lists l.groups.items ≡ in_order (lists l.members) (take l.node-index l.order)
