use Rattle.std.proofs.Common.{◌≡◌, take, length}
use Rattle.tree_same.proofs.types.+types.Given as goal

abbrev pub invariant-same_types-loop-i : goal.invariant-same_types-loop-i
invariant-same_types-loop-i l = (length l.a ≡ length l.b) × (take l.i l.a ≡ take l.i l.b)

abbrev pub invariant-same_atypes-loop-i : goal.invariant-same_atypes-loop-i
invariant-same_atypes-loop-i l = (length l.a ≡ length l.b) × (take l.i l.a ≡ take l.i l.b)
