use Rattle.std.proofs.Common.{◌≡◌, ◌⊎◌, ◌<◌, ◌+◌, ◌↔◌, ℕ, get_or, length}
use Rattle.numbered_nodes.specs.Edges.{lists, HasEdge}
use Rattle.numbered_nodes.proofs.steps.add_members.Given as goal

abbrev pub invariant-loop-b : goal.invariant-loop-b
invariant-loop-b l = record {
  len : length l.rows ≡ length l.initial.rows;
  edges : (x y : ℕ) → HasEdge (lists l.rows) x y ↔ (HasEdge (lists l.initial.rows) x y ⊎ ((y < l.b) × (x ≡ length l.loops + get_or l.loops y 0)));
}
