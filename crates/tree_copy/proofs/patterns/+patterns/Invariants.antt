use Rattle.std.proofs.Common.{◌≡◌, take}
use Rattle.tree_copy.proofs.patterns.+patterns.Given as goal

abbrev pub invariant-copy_patterns-loop-part : goal.invariant-copy_patterns-loop-part
invariant-copy_patterns-loop-part l = l.out.items ≡ take l.part-index l.a

abbrev pub invariant-copy_pat_links-loop-part : goal.invariant-copy_pat_links-loop-part
invariant-copy_pat_links-loop-part l = l.out.items ≡ take l.part-index l.a

abbrev pub invariant-copy_apats-loop-part : goal.invariant-copy_apats-loop-part
invariant-copy_apats-loop-part l = l.out.items ≡ take l.part-index l.a

abbrev pub invariant-copy_fpats-loop-part : goal.invariant-copy_fpats-loop-part
invariant-copy_fpats-loop-part l = l.out.items ≡ take l.part-index l.a
