use Rattle.std.proofs.Common.{◌≡◌, ◌<◌, ℕ, true, false, get_or, length}
use Rattle.numbered_nodes.specs.Bits.{room_for}
use Rattle.numbered_nodes.specs.Edges.{lists, HaveRoom}
use Rattle.numbered_nodes.specs.Search.{AreExact}
use Rattle.numbered_nodes.proofs.search.rows_in_order.Given as goal

abbrev pub invariant-loop-a : goal.invariant-loop-a
invariant-loop-a l = record {
  len : length l.rows.items ≡ length l.graph;
  len_done : length l.done.items ≡ length l.graph;
  room : HaveRoom (room_for (length l.graph)) l.rows.items;
  exact : AreExact (lists l.graph) l.done.items l.rows.items;
}

abbrev pub invariant-loop-a-2 : goal.invariant-loop-a-2
invariant-loop-a-2 l = record {
  len : length l.rows.items ≡ length l.graph;
  len_done : length l.done.items ≡ length l.graph;
  room : HaveRoom (room_for (length l.graph)) l.rows.items;
  exact : AreExact (lists l.graph) l.done.items l.rows.items;
  all : (b : ℕ) → b < l.a → get_or l.done.items b false ≡ true;
}
