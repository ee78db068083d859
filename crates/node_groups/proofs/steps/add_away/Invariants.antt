use Rattle.std.proofs.Common.{◌≡◌, ◌⊎◌, ◌<◌, ◌↔◌, ℕ, get_or}
use Rattle.std.specs.List.{Contains}
use Rattle.node_groups.proofs.steps.add_away.Given as goal

abbrev pub invariant-loop-target : goal.invariant-loop-target
invariant-loop-target l = (y : ℕ) → Contains l.row.items y ↔ (Contains l.initial.row.items y ⊎ ((i : ℕ) × (i < l.target-index) × (get_or l.loops (get_or l.targets i 0) 0 ≡ y) × (y ≡ l.own → ⊥)))
