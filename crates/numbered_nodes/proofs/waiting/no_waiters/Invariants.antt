use Rattle.std.proofs.Common.{◌≡◌, ℕ, [], get_or, length}
use Rattle.numbered_nodes.specs.Edges.{lists}
use Rattle.numbered_nodes.proofs.waiting.no_waiters.Given as goal

abbrev pub invariant-loop-node : goal.invariant-loop-node
invariant-loop-node l = record {
  len : length l.waiting.items ≡ l.node;
  none : (z : ℕ) → get_or (lists l.waiting.items) z [] ≡ [];
}
