use Rattle.std.proofs.Common.{◌≡◌, ◌<◌, ◌≤◌, ℕ, get_or, length, bit_or}
use Rattle.numbered_nodes.proofs.sets.NumberSet.add_all.Given as goal

abbrev pub invariant-loop-i : goal.invariant-loop-i
invariant-loop-i l = (length l.self-inside.words.items ≡ length l.initial.self-inside.words.items) × ((k : ℕ) → k < l.i → get_or l.self-inside.words.items k 0 ≡ bit_or (get_or l.initial.self-inside.words.items k 0) (get_or l.other-inside.words.items k 0)) × ((k : ℕ) → l.i ≤ k → get_or l.self-inside.words.items k 0 ≡ get_or l.initial.self-inside.words.items k 0)
