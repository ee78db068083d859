use Rattle.std.proofs.Common.{◌≡◌, ◌⊎◌, ◌<◌, ◌+◌, ℕ, true, length}
use Rattle.std.specs.List.{Contains}
use Rattle.numbered_nodes.specs.Bits.{has, room, room_for, absent}
use Rattle.numbered_nodes.specs.Reach.{Reach}
use Rattle.numbered_nodes.specs.Edges.{lists, HasEdge}
use Rattle.numbered_nodes.specs.Search.{IsSettled}
use Rattle.numbered_nodes.proofs.search.flood.Given as goal

abbrev pub invariant-loop-x : goal.invariant-loop-x
invariant-loop-x l = record {
  room : room l.row ≡ room_for (length l.graph);
  sound : (b : ℕ) → has l.row b ≡ true → Reach (HasEdge (lists l.graph)) l.from b;
  settled : (a : ℕ) → (a ≡ l.from) ⊎ (has l.row a ≡ true) → Contains l.left.items a ⊎ IsSettled (lists l.graph) l.row a;
  nodes : (a : ℕ) → Contains l.left.items a → (a < length l.graph) × ((a ≡ l.from) ⊎ Reach (HasEdge (lists l.graph)) l.from a);
}

abbrev pub decreases-loop-x : goal.decreases-loop-x
decreases-loop-x l = absent l.row (length l.graph) + length l.left.items
