use Rattle.std.proofs.Common.{◌≡◌, take}
use Rattle.indexmap.specs.IndexSet.{IsUnique}
use Rattle.mod_graph.specs.Names.{same_node}
use Rattle.mod_graph.proofs.SeenNodes.{nodes_of}
use Rattle.mod_graph.proofs.distinct.are_distinct.Given as goal

abbrev pub invariant-loop-header : goal.invariant-loop-header
invariant-loop-header l = record {
  keys : l.seen.keys ≡ nodes_of (take l.header-index l.headers);
  unique : IsUnique same_node l.seen;
}
