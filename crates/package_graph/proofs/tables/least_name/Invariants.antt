use Rattle.std.proofs.Common.{◌≡◌, drop}
use Rattle.std.specs.Option.{option_copied}
use Rattle.numbered_nodes.specs.Bits.{has}
use Rattle.package_graph.specs.Targets.{least_at}
use Rattle.package_graph.proofs.tables.least_name.Given as goal

abbrev pub invariant-loop-i : goal.invariant-loop-i
invariant-loop-i l = option_copied l.least ≡ least_at l.modules (has l.row) (drop l.i l.places)
