use Rattle.std.proofs.Common.{◌≡◌, ◌<◌, ◌↔◌, ℕ, [], get_or, length}
use Rattle.numbered_nodes.specs.Edges.{lists, HasEdge}
use Rattle.node_groups.specs.Steps.{IsAway}
use Rattle.node_groups.proofs.steps.add_steps.Given as goal

abbrev pub invariant-loop-node : goal.invariant-loop-node
invariant-loop-node l = record {
  len : length l.rows ≡ length l.graph;
  steps : (k y : ℕ) → HasEdge (lists l.rows) k y ↔ ((a : ℕ) × (a < l.node) × (get_or l.loops a 0 ≡ k) × IsAway (get_or (lists l.graph) a []) l.loops k y);
}
