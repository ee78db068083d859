use Rattle.std.proofs.Common.{◌≡◌, map, take}
use Rattle.numbered_nodes.specs.Edges.{lists}
use Rattle.bind_groups.specs.Depends.{unsigned_names}
use Rattle.bind_groups.specs.Numbers.{numbers_in}
use Rattle.bind_groups.proofs.rows.bound_rows.Given as goal

abbrev pub invariant-loop-binding : goal.invariant-loop-binding
invariant-loop-binding l = lists l.rows.items ≡ map (λ b. numbers_in l.names.keys (unsigned_names b)) (take l.binding-index l.bindings)
