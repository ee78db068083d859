use Rattle.std.proofs.Common.{◌≡◌, ◌∷◌, take}
use Rattle.mod_graph.specs.Prelude.{implicit_import}
use Rattle.mod_graph.proofs.prelude.behind_implicit.Given as goal

abbrev pub invariant-loop-import : goal.invariant-loop-import
invariant-loop-import l = l.all ≡ implicit_import ∷ take l.import-index l.imports
