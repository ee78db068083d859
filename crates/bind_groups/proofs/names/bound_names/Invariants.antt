use Rattle.std.proofs.Common.{◌<◌, ℕ, [], get_or, map}
use Rattle.std.specs.List.{Contains}
use Rattle.bind_groups.specs.Depends.{unsigned_names}
use Rattle.bind_groups.specs.Numbers.{HasName}
use Rattle.bind_groups.proofs.names.bound_names.Given as goal

abbrev pub invariant-loop-binding : goal.invariant-loop-binding
invariant-loop-binding l = (j x : ℕ) → j < l.binding-index → Contains (get_or (map unsigned_names l.bindings) j []) x → HasName l.names.keys x
