use Rattle.std.proofs.Common.{◌≡◌, take}
use Rattle.tree_copy.proofs.types.+types.Given as goal

abbrev pub invariant-copy_types-loop-part : goal.invariant-copy_types-loop-part
invariant-copy_types-loop-part l = l.out.items ≡ take l.part-index l.a

abbrev pub invariant-copy_atypes-loop-part : goal.invariant-copy_atypes-loop-part
invariant-copy_atypes-loop-part l = l.out.items ≡ take l.part-index l.a
