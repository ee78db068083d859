use Rattle.std.proofs.Common.{◌≡◌, ◌<◌, ℕ, true, get_or, []}
use Rattle.numbered_nodes.specs.Bits.{has, room}
use Rattle.numbered_nodes.specs.Edges.{lists}
use Rattle.numbered_nodes.specs.Search.{Scanned}
use Rattle.numbered_nodes.proofs.search.scan.Given as goal

abbrev pub invariant-loop-y : goal.invariant-loop-y
invariant-loop-y l = record {
  room : room l.row ≡ room l.initial.row;
  scanned : Scanned (lists l.graph) l.x l.initial.row l.initial.left.items l.row l.left.items;
  targets : (i d : ℕ) → i < l.y-index → has l.row (get_or (get_or (lists l.graph) l.x []) i d) ≡ true;
}
