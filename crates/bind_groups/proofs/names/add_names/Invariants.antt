use Rattle.std.proofs.Common.{◌⊎◌, ℕ, take}
use Rattle.std.specs.List.{Contains}
use Rattle.bind_groups.specs.Numbers.{HasName}
use Rattle.bind_groups.proofs.names.add_names.Given as goal

abbrev pub invariant-loop-name : goal.invariant-loop-name
invariant-loop-name l = (x : ℕ) → (HasName l.initial.names.keys x ⊎ Contains (take l.name-index l.more) x) → HasName l.names.keys x
