use Rattle.std.proofs.Common.{◌≡◌, ◌<◌, ◌↔◌, ◌+◌, ℕ, true, false, get_or, take, length}
use Rattle.std.specs.List.{Contains}
use Rattle.numbered_nodes.specs.Bits.{has, room, room_for, absent}
use Rattle.numbered_nodes.specs.Edges.{lists, HasEdge, Relates}
use Rattle.numbered_nodes.specs.Waiting.{IsReadyNow, IsPlaced}
use Rattle.numbered_nodes.proofs.OrderLaws.{Next}
use Rattle.numbered_nodes.proofs.order.order_of.Given as goal

abbrev pub invariant-loop-turn : goal.invariant-loop-turn
invariant-loop-turn l = record {
  listed_room : room l.listed ≡ room_for (length l.needs);
  len : length l.order.items ≡ l.turn;
  unlisted : absent l.listed (length l.needs) + l.turn ≡ length l.needs;
  same : (k : ℕ) → (has l.listed k ≡ true) ↔ Contains l.order.items k;
  next : (i : ℕ) → i < l.turn → Next (Relates l.needs) (length l.needs) (take i l.order.items) (get_or l.order.items i 0);
  ready_room : room l.ready ≡ room_for (length l.needs);
  waiting_len : length l.waiting.items ≡ length l.needs;
  ready : (x : ℕ) → has l.ready x ≡ true → IsReadyNow l.needs (length l.needs) l.listed x;
  range : (z x : ℕ) → HasEdge (lists l.waiting.items) z x → x < length l.needs;
  placed : (x : ℕ) → x < length l.needs → has l.listed x ≡ false → IsPlaced l.needs (length l.needs) l.listed l.ready (lists l.waiting.items) x;
}
