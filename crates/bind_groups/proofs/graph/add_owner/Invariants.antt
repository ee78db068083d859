use Rattle.std.proofs.Common.{◌≡◌, ◌⊎◌, ◌<◌, ◌↔◌, ℕ, get_or, length}
use Rattle.numbered_nodes.specs.Edges.{lists, HasEdge}
use Rattle.bind_groups.proofs.graph.add_owner.Given as goal

abbrev pub invariant-loop-name : goal.invariant-loop-name
invariant-loop-name l = record {
  len : length l.rows ≡ length l.initial.rows;
  edges : (b a : ℕ) → HasEdge (lists l.rows) b a ↔ (HasEdge (lists l.initial.rows) b a ⊎ ((a ≡ l.binding) × ((k : ℕ) × (k < l.name-index) × (get_or l.names k 0 ≡ b))));
}
