use Rattle.std.proofs.Common.{◌≡◌, length}
use Rattle.numbered_nodes.specs.Bits.{room_for}
use Rattle.numbered_nodes.specs.Edges.{HaveRoom}
use Rattle.numbered_nodes.proofs.search.no_rows.Given as goal

abbrev pub invariant-loop-turn : goal.invariant-loop-turn
invariant-loop-turn l = (length l.rows.items ≡ l.turn) × HaveRoom (room_for l.count) l.rows.items
