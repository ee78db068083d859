use Rattle.std.proofs.Common.{◌≡◌, ◌++◌, map, drop}
use Rattle.numbered_nodes.specs.Edges.{lists}
use Rattle.package_graph.specs.Targets.{package_targets}
use Rattle.package_graph.proofs.tables.package_edges.Given as goal

abbrev pub invariant-loop-module : goal.invariant-loop-module
invariant-loop-module l = lists l.edges.items ++ map (package_targets l.modules) (drop l.module-index l.modules) ≡ map (package_targets l.modules) l.modules
