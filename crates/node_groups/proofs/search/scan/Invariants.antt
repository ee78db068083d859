use Rattle.std.proofs.Common.{◌≡◌, ◌<◌, ◌≤◌, ◌+◌, ℕ, [], get_or, length}
use Rattle.numbered_nodes.specs.Edges.{lists}
use Rattle.node_groups.specs.Marks.{IsSearch, unmarked, AreKept}
use Rattle.node_groups.proofs.search.scan.Given as goal

abbrev pub invariant-loop-y : goal.invariant-loop-y
invariant-loop-y l = record {
  kept : AreKept l.from l.initial.marks l.marks;
  fewer : unmarked l.from l.marks + length l.left.items ≤ unmarked l.from l.initial.marks + length l.initial.left.items;
  search : IsSearch (lists l.graph) l.keys l.key l.from l.marks l.left.items l.x;
  targets : (j : ℕ) → j < l.y-index → get_or l.keys (get_or (get_or (lists l.graph) l.x []) j 0) 0 ≡ l.key → get_or l.marks (get_or (get_or (lists l.graph) l.x []) j 0) 0 ≡ l.from;
}
