use Rattle.std.proofs.Common.{◌≡◌, ◌<◌, ℕ, [], get_or, length}
use Rattle.numbered_nodes.specs.Edges.{lists}
use Rattle.node_groups.proofs.order.target_counts.Given as goal

abbrev pub invariant-loop-targets : goal.invariant-loop-targets
invariant-loop-targets l = record {
  len : length l.counts.items ≡ l.targets-index;
  counts : (x : ℕ) → x < l.targets-index → get_or l.counts.items x 0 ≡ length (get_or (lists l.graph) x []);
}
