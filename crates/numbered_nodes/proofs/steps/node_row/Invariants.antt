use Rattle.std.proofs.Common.{◌≡◌, ◌⊎◌, ◌<◌, ◌+◌, ℕ, get_or, length}
use Rattle.std.specs.List.{Contains}
use Rattle.numbered_nodes.specs.Away.{LeadsAway}
use Rattle.numbered_nodes.proofs.steps.node_row.Given as goal

abbrev pub invariant-loop-z : goal.invariant-loop-z
invariant-loop-z l = record {
  kept : (y : ℕ) → Contains l.targets y → Contains l.row.items y;
  sound : (y : ℕ) → Contains l.row.items y → Contains l.targets y ⊎ LeadsAway l.targets l.loops l.own y;
  away : (i : ℕ) → i < l.z-index → (l.own ≡ get_or l.loops (get_or l.targets i 0) 0 → ⊥) → Contains l.row.items (length l.loops + get_or l.loops (get_or l.targets i 0) 0);
}
