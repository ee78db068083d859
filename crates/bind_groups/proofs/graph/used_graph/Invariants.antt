use Rattle.std.proofs.Common.{◌≡◌, ◌<◌, ◌↔◌, ℕ, length}
use Rattle.numbered_nodes.specs.Edges.{lists, HasEdge}
use Rattle.bind_groups.proofs.graph.used_graph.Given as goal

abbrev pub invariant-loop-binding : goal.invariant-loop-binding
invariant-loop-binding l = record {
  len : length l.rows.items ≡ l.binding;
  edges : (a j : ℕ) → a < l.binding → HasEdge (lists l.rows.items) a j ↔ ((x : ℕ) × HasEdge (lists l.used) a x × HasEdge (lists l.owners) x j);
}
