use Rattle.std.proofs.Common.{◌≡◌, ◌++◌, drop}
use Rattle.build_plan.specs.Plan.{IsPlanned}
use Rattle.build_plan.specs.Positions.{import_places}
use Rattle.build_plan.specs.Tree.{SourceTree, input_of, nodes_of, ordered}
use Rattle.build_plan.proofs.imports.seen_places.Given as goal

abbrev pub invariant-loop-import : goal.invariant-loop-import
invariant-loop-import l = (t : SourceTree) → IsPlanned t l.graph
    → l.places.items ++ import_places (input_of t) (nodes_of (ordered t)) l.place (drop l.import-index l.imports) ≡ import_places (input_of t) (nodes_of (ordered t)) l.place l.imports
