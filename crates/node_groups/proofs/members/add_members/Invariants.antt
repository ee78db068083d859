use Rattle.std.proofs.Common.{◌≡◌, ◌<◌, ◌↔◌, ℕ, [], get_or, length}
use Rattle.numbered_nodes.specs.Edges.{lists, HasEdge}
use Rattle.node_groups.specs.Rising.{AreRising}
use Rattle.node_groups.proofs.members.add_members.Given as goal

abbrev pub invariant-loop-node : goal.invariant-loop-node
invariant-loop-node l = record {
  len : length l.rows ≡ length l.loops;
  members : (k a : ℕ) → HasEdge (lists l.rows) k a ↔ ((a < l.node) × (get_or l.loops a 0 ≡ k));
  rising : (k : ℕ) → AreRising (get_or (lists l.rows) k []);
}
