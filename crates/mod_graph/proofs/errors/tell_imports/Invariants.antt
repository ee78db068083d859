use Rattle.std.proofs.Common.{◌≡◌, ◌++◌, drop}
use Rattle.mod_graph.specs.Told.{told_imports}
use Rattle.mod_graph.proofs.errors.tell_imports.Given as goal

abbrev pub invariant-loop-import : goal.invariant-loop-import
invariant-loop-import l = l.diags.items ++ told_imports l.numbers l.packages (drop l.import-index l.imports) ≡ l.initial.diags.items ++ told_imports l.numbers l.packages l.imports
