use Rattle.std.proofs.Common.{◌≡◌, take, unwrap_or}
use Rattle.std.specs.Prelude.{map}
use Rattle.mod_graph.specs.declared.entries.Entry.{Entry}
use Rattle.mod_graph.specs.Places.{module_in}
use Rattle.mod_graph.proofs.edges.modules_of.Given as goal

abbrev pub invariant-loop-entry : goal.invariant-loop-entry
invariant-loop-entry l = l.modules.items ≡ map (λ (e : Entry). unwrap_or (module_in l.numbers e.node.module.text) 0) (take l.entry-index l.entries)
