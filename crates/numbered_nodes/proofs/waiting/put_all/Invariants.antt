use Rattle.std.proofs.Common.{◌≡◌, ◌<◌, ℕ, length}
use Rattle.numbered_nodes.specs.Bits.{room}
use Rattle.numbered_nodes.specs.Edges.{lists}
use Rattle.numbered_nodes.specs.Waiting.{IsPlaced, IsMore}
use Rattle.numbered_nodes.proofs.waiting.put_all.Given as goal

abbrev pub invariant-loop-node : goal.invariant-loop-node
invariant-loop-node l = record {
  room : room l.ready ≡ room l.fn.ready;
  len : length l.waiting ≡ length l.fn.waiting;
  more : IsMore l.needs (length l.needs) l.listed l.fn.ready (lists l.fn.waiting) l.ready (lists l.waiting);
  placed : (x : ℕ) → x < l.node → IsPlaced l.needs (length l.needs) l.listed l.ready (lists l.waiting) x;
}
