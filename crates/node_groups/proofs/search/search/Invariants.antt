use Rattle.std.proofs.Common.{◌≡◌, ◌+◌, get_or, length}
use Rattle.numbered_nodes.specs.Edges.{lists}
use Rattle.node_groups.specs.Marks.{IsSearch, unmarked, AreKept}
use Rattle.node_groups.proofs.search.search.Given as goal

abbrev pub invariant-loop-x : goal.invariant-loop-x
invariant-loop-x l = record {
  kept : AreKept l.from l.fn.marks l.marks;
  search : IsSearch (lists l.graph) l.keys l.key l.from l.marks l.left.items (length l.graph);
  len : length l.marks ≡ length l.graph;
  here : get_or l.marks l.from 0 ≡ l.from;
}

abbrev pub decreases-loop-x : goal.decreases-loop-x
decreases-loop-x l = unmarked l.from l.marks + length l.left.items
