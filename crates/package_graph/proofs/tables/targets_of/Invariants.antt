use Rattle.std.proofs.Common.{◌≡◌, ◌++◌, drop}
use Rattle.package_graph.specs.Targets.{targets_in}
use Rattle.package_graph.proofs.tables.targets_of.Given as goal

abbrev pub invariant-loop-name : goal.invariant-loop-name
invariant-loop-name l = l.targets.items ++ targets_in l.homes l.firsts l.unit (drop l.name-index l.names) ≡ targets_in l.homes l.firsts l.unit l.names
