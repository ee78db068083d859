use Rattle.std.proofs.Common.{◌≡◌, take}
use Rattle.tree_copy.proofs.names.copy_qops.Given as goal

abbrev pub invariant-loop-part : goal.invariant-loop-part
invariant-loop-part l = l.out.items ≡ take l.part-index l.a
