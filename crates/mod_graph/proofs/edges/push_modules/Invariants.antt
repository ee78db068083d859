use Rattle.std.proofs.Common.{◌≡◌, ◌++◌, take}
use Rattle.mod_graph.specs.Targets as spec
use Rattle.mod_graph.proofs.edges.push_modules.Given as goal

abbrev pub invariant-loop-import : goal.invariant-loop-import
invariant-loop-import l = l.row.items ≡ l.initial.row.items ++ spec.module_targets l.numbers (take l.import-index l.imports)
