use Rattle.std.proofs.Common.{◌<◌, ℕ}
use Rattle.numbered_nodes.specs.Mates.{AreMates}
use Rattle.numbered_nodes.proofs.loops.least_mate.Given as goal

abbrev pub invariant-loop-b : goal.invariant-loop-b
invariant-loop-b l = (b : ℕ) → b < l.b → AreMates l.rows l.a b → ⊥
