use Rattle.std.proofs.Common.{◌≡◌, ◌<◌, ◌↔◌, ℕ, get_or, length}
use Rattle.numbered_nodes.specs.Edges.{lists, HasEdge}
use Rattle.numbered_nodes.specs.Needs.{Hub}
use Rattle.numbered_nodes.proofs.steps.node_rows.Given as goal

abbrev pub invariant-loop-a : goal.invariant-loop-a
invariant-loop-a l = record {
  len : length l.rows.items ≡ l.a;
  edges : (x y : ℕ) → x < l.a → HasEdge (lists l.rows.items) x y ↔ Hub (HasEdge (lists l.graph)) (λ b. get_or l.loops b 0) (length l.loops) x y;
}
