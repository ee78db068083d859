use Rattle.std.proofs.Common.{◌≡◌, ◌<◌, ℕ, [], get_or, length}
use Rattle.numbered_nodes.specs.Bits.{room}
use Rattle.numbered_nodes.specs.Edges.{lists}
use Rattle.numbered_nodes.specs.Waiting.{IsPlaced, IsMore}
use Rattle.numbered_nodes.proofs.waiting.put_again.Given as goal

abbrev pub invariant-loop-i : goal.invariant-loop-i
invariant-loop-i l = record {
  room : room l.ready ≡ room l.fn.ready;
  len : length l.waiting ≡ length l.fn.waiting;
  end : l.i-end ≡ length (get_or (lists l.fn.waiting) l.node []);
  more : IsMore l.needs (length l.needs) l.listed l.fn.ready (lists l.fn.waiting) l.ready (lists l.waiting);
  placed : (k : ℕ) → k < l.i → IsPlaced l.needs (length l.needs) l.listed l.ready (lists l.waiting) (get_or (get_or (lists l.fn.waiting) l.node []) k 0);
}
