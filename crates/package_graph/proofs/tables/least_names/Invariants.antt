use Rattle.std.proofs.Common.{◌≡◌, map, take}
use Rattle.numbered_nodes.specs.Bits.{has}
use Rattle.package_graph.specs.Targets.{is_state, state_places, least_at}
use Rattle.package_graph.proofs.tables.least_names.Given as goal

abbrev pub invariant-loop-row : goal.invariant-loop-row
invariant-loop-row l = l.names.items ≡ map (λ row. least_at l.modules (has row) (state_places (is_state l.fn.state) 0 l.modules)) (take l.row-index l.rows)
