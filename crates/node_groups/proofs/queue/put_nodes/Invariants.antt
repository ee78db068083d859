use Rattle.std.proofs.Common.{◌≡◌, drop, length}
use Rattle.numbered_nodes.specs.Edges.{lists}
use Rattle.node_groups.specs.Queue.{IsQueue, AreEnds}
use Rattle.node_groups.proofs.queue.put_nodes.Given as goal

abbrev pub invariant-loop-node : goal.invariant-loop-node
invariant-loop-node l = record {
  len : length l.ends ≡ length l.graph;
  ends : AreEnds (lists l.graph) l.ends;
  waiting : length l.waiting ≡ length l.graph;
  queue : IsQueue (lists l.graph) (length l.graph) l.listed l.ends (lists l.waiting) l.ready.keys (drop l.node-index l.nodes);
}
