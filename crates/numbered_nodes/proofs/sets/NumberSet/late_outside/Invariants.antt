use Rattle.std.proofs.Common.{◌≡◌, ◌<◌, ◌≤◌, ◌-◌, ◌*◌, ℕ, true}
use Rattle.numbered_nodes.specs.Bits.{has}
use Rattle.numbered_nodes.proofs.sets.NumberSet.late_outside.Given as goal

abbrev pub invariant-loop-turn : goal.invariant-loop-turn
invariant-loop-turn l = (j : ℕ) → (l.words - l.turn) * 64 ≤ j → j < l.bound → has l.self j ≡ true → has l.other j ≡ true
