use Rattle.std.proofs.Common.{◌↔◌, ℕ}
use Rattle.std.specs.List.{Contains}
use Rattle.numbered_nodes.specs.Edges.{lists}
use Rattle.bind_groups.proofs.Owners.{Upto}
use Rattle.bind_groups.proofs.graph.targets_of.Given as goal

abbrev pub invariant-loop-name : goal.invariant-loop-name
invariant-loop-name l = (j : ℕ) → Contains l.row.items j ↔ Upto l.names (lists l.owners) l.name-index j
