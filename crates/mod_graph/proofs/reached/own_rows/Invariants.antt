use Rattle.std.proofs.Common.{◌≡◌, ◌<◌, ℕ, [], length, get_or}
use Rattle.numbered_nodes.specs.Bits.{has, room_for}
use Rattle.numbered_nodes.specs.Edges.{HaveRoom}
use Rattle.mod_graph.specs.Environments.{own_brings}
use Rattle.mod_graph.proofs.reached.own_rows.Given as goal

abbrev pub invariant-loop-entry : goal.invariant-loop-entry
invariant-loop-entry l = record {
  len : length l.rows.items ≡ l.entry-index;
  room : HaveRoom (room_for (length l.packages.rows.items)) l.rows.items;
  has : (a k : ℕ) → a < l.entry-index → has (get_or l.rows.items a []) k ≡ own_brings l.numbers l.packages l.entries a k;
}
