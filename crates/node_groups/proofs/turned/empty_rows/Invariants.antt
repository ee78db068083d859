use Rattle.std.proofs.Common.{◌≡◌, ℕ, [], get_or, length}
use Rattle.numbered_nodes.specs.Edges.{lists}
use Rattle.node_groups.proofs.turned.empty_rows.Given as goal

abbrev pub invariant-loop-row : goal.invariant-loop-row
invariant-loop-row l = record {
  len : length l.rows.items ≡ l.row;
  none : (z : ℕ) → get_or (lists l.rows.items) z [] ≡ [];
}
