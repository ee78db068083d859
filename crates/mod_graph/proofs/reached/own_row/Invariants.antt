use Rattle.std.proofs.Common.{◌≡◌, ℕ, length, take}
use Rattle.numbered_nodes.specs.Bits.{has, room, room_for}
use Rattle.mod_graph.specs.Environments.{imports_bring}
use Rattle.mod_graph.proofs.reached.own_row.Given as goal

abbrev pub invariant-loop-import : goal.invariant-loop-import
invariant-loop-import l = record {
  room : room l.row ≡ room_for (length l.packages.rows.items);
  has : (k : ℕ) → has l.row k ≡ imports_bring l.numbers l.packages (take l.import-index l.imports) k;
}
