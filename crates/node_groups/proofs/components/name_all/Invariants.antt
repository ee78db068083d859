use Rattle.std.proofs.Common.{◌≡◌, ◌<◌, ℕ, get_or, length, vec_len}
use Rattle.std.specs.List.{All}
use Rattle.numbered_nodes.specs.Edges.{lists, HasEdge}
use Rattle.node_groups.specs.Parted.{AreParted}
use Rattle.node_groups.proofs.components.name_all.Given as goal

abbrev pub invariant-loop-from : goal.invariant-loop-from
invariant-loop-from l = record {
  order : All (λ a. a < length l.graph) l.order.items;
  names : length l.names ≡ length l.graph;
  marks : length l.marks ≡ length l.graph;
  parted : AreParted (HasEdge (lists l.graph)) (length l.graph) l.names l.marks;
}

abbrev pub decreases-loop-from : goal.decreases-loop-from
decreases-loop-from l = vec_len l.order

abbrev pub invariant-loop-from-2 : goal.invariant-loop-from-2
invariant-loop-from-2 l = record {
  names : length l.names ≡ length l.graph;
  marks : length l.marks ≡ length l.graph;
  parted : AreParted (HasEdge (lists l.graph)) (length l.graph) l.names l.marks;
  all : (a : ℕ) → a < l.from → get_or l.names a 0 ≡ length l.graph → ⊥;
}
