use Rattle.std.proofs.Common.{◌≡◌, take}
use Rattle.numbered_nodes.specs.Edges.{lists}
use Rattle.bind_groups.proofs.rows.number_lists.Given as goal

abbrev pub invariant-loop-row : goal.invariant-loop-row
invariant-loop-row l = l.all ≡ lists (take l.row-index l.rows)
