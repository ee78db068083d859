use Rattle.std.proofs.Common.{◌≡◌, ◌||◌, ◌<◌, ◌≤◌, ℕ, nat_eq, [], get_or, length}
use Rattle.numbered_nodes.specs.Bits.{has, room_for}
use Rattle.numbered_nodes.specs.Edges.{HaveRoom}
use Rattle.package_graph.proofs.tables.with_themselves.Given as goal

abbrev pub invariant-loop-j : goal.invariant-loop-j
invariant-loop-j l = record {
  count : length l.rows.items ≡ length l.initial.rows.items;
  room : HaveRoom (room_for (length l.initial.rows.items)) l.rows.items;
  done : (j k : ℕ) → j < l.j → has (get_or l.rows.items j []) k ≡ (nat_eq k j || has (get_or l.initial.rows.items j []) k);
  rest : (j : ℕ) → l.j ≤ j → get_or l.rows.items j [] ≡ get_or l.initial.rows.items j [];
}
