use Rattle.std.proofs.Common.{◌≡◌, ◌++◌, take}
use Rattle.mod_graph.specs.Targets as spec
use Rattle.mod_graph.proofs.edges.node_targets.Given as goal

abbrev pub invariant-loop-import : goal.invariant-loop-import
invariant-loop-import l = l.row.items ≡ l.initial.row.items ++ spec.import_targets l.numbers (take l.import-index l.entry.imports)
