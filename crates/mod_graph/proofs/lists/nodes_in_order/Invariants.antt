use Rattle.std.proofs.Common.{◌≡◌, take}
use Rattle.mod_graph.specs.Graph.{nodes_at}
use Rattle.mod_graph.proofs.lists.nodes_in_order.Given as goal

abbrev pub invariant-loop-number : goal.invariant-loop-number
invariant-loop-number l = l.nodes ≡ nodes_at l.entries (take l.number-index l.order)
