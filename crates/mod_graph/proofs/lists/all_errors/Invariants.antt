use Rattle.std.proofs.Common.{◌≡◌, List, map, take}
use Rattle.package_graph.specs.declared.modules.PackageModule.{PackageModule}
use Rattle.mod_graph.specs.Errors.{errors_of}
use Rattle.package_graph.specs.Tables.{AreTables}
use Rattle.mod_graph.proofs.lists.all_errors.Given as goal

abbrev pub invariant-loop-number : goal.invariant-loop-number
invariant-loop-number l = (ps : List PackageModule) → AreTables l.tables ps → l.all ≡ map (errors_of l.entries ps) (take l.number-index l.rows.order.items)
