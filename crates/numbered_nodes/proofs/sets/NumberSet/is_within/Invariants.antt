use Rattle.std.proofs.Common.{◌≡◌, ◌<◌, ℕ, get_or, bit_or}
use Rattle.numbered_nodes.proofs.sets.NumberSet.is_within.Given as goal

abbrev pub invariant-loop-i : goal.invariant-loop-i
invariant-loop-i l = (k : ℕ) → k < l.i → bit_or (get_or l.self-inside.words.items k 0) (get_or l.other-inside.words.items k 0) ≡ get_or l.other-inside.words.items k 0
