use Rattle.std.proofs.Common.{◌≡◌, ◌<◌, ◌↔◌, ℕ, length}
use Rattle.numbered_nodes.specs.Edges.{lists, HasEdge}
use Rattle.node_groups.proofs.turned.turned.Given as goal

abbrev pub invariant-loop-node : goal.invariant-loop-node
invariant-loop-node l = record {
  len : length l.rows.items ≡ length l.graph;
  edges : (a b : ℕ) → HasEdge (lists l.rows.items) b a ↔ ((a < l.node) × HasEdge (lists l.graph) a b);
}
