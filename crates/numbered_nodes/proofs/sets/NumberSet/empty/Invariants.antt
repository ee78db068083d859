use Rattle.std.proofs.Common.{◌≡◌, replicate}
use Rattle.numbered_nodes.proofs.sets.NumberSet.empty.Given as goal

abbrev pub invariant-loop-turn : goal.invariant-loop-turn
invariant-loop-turn l = l.words.items ≡ replicate l.turn 0
