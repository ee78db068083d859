use Rattle.std.proofs.Common.{◌≡◌, ◌<◌, ℕ, true}
use Rattle.numbered_nodes.specs.Bits.{has, room, room_for}
use Rattle.numbered_nodes.proofs.order.all_nodes.Given as goal

abbrev pub invariant-loop-node : goal.invariant-loop-node
invariant-loop-node l = record {
  room : room l.all ≡ room_for l.count;
  all : (x : ℕ) → x < l.node → has l.all x ≡ true;
}
