use Rattle.std.proofs.Common.{◌≡◌, drop}
use Rattle.std.specs.List.{find}
use Rattle.mod_graph.specs.Told.{back_in}
use Rattle.mod_graph.proofs.errors.first_back.Given as goal

abbrev pub invariant-loop-import : goal.invariant-loop-import
invariant-loop-import l = find (back_in l.numbers l.reach l.number) (drop l.import-index l.imports) ≡ find (back_in l.numbers l.reach l.number) l.imports
