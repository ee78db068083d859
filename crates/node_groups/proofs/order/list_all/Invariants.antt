use Rattle.std.proofs.Common.{◌≡◌, ◌<◌, ◌↔◌, ℕ, [], true, get_or, take, length}
use Rattle.std.specs.List.{Contains}
use Rattle.numbered_nodes.specs.Edges.{lists}
use Rattle.node_groups.specs.Queue.{Is, IsQueue, AreEnds, unlisted}
use Rattle.node_groups.proofs.Listing.{Next}
use Rattle.node_groups.proofs.order.list_all.Given as goal

abbrev pub invariant-loop-node : goal.invariant-loop-node
invariant-loop-node l = record {
  listed : length l.listed ≡ length l.graph;
  len : length l.ends ≡ length l.graph;
  ends : AreEnds (lists l.graph) l.ends;
  waiting : length l.waiting ≡ length l.graph;
  queue : IsQueue (lists l.graph) (length l.graph) l.listed l.ends (lists l.waiting) l.ready.keys [];
  same : (k : ℕ) → Is l.listed k true ↔ Contains l.order.items k;
  next : (i : ℕ) → i < length l.order.items → Next (lists l.graph) (length l.graph) (take i l.order.items) (get_or l.order.items i 0);
}

abbrev pub decreases-loop-node : goal.decreases-loop-node
decreases-loop-node l = unlisted l.listed
