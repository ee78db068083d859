use Rattle.std.proofs.Common.{◌≡◌, ◌<◌, ◌↔◌, ℕ, length}
use Rattle.numbered_nodes.specs.Edges.{lists, HasEdge}
use Rattle.bind_groups.proofs.graph.owners_of.Given as goal

abbrev pub invariant-loop-binding : goal.invariant-loop-binding
invariant-loop-binding l = record {
  len : length l.rows.items ≡ l.count;
  edges : (a b : ℕ) → HasEdge (lists l.rows.items) b a ↔ ((a < l.binding) × HasEdge (lists l.bound) a b);
}
