use Rattle.std.proofs.Common.{◌≡◌, ◌⊎◌, ◌<◌, ◌↔◌, ℕ, get_or, length}
use Rattle.numbered_nodes.specs.Edges.{lists, HasEdge}
use Rattle.node_groups.proofs.turned.add_source.Given as goal

abbrev pub invariant-loop-target : goal.invariant-loop-target
invariant-loop-target l = record {
  len : length l.rows ≡ length l.initial.rows;
  edges : (b a : ℕ) → HasEdge (lists l.rows) b a ↔ (HasEdge (lists l.initial.rows) b a ⊎ ((a ≡ l.node) × ((k : ℕ) × (k < l.target-index) × (get_or l.targets k 0 ≡ b))));
}
