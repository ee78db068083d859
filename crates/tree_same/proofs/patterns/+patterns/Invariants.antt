use Rattle.std.proofs.Common.{◌≡◌, take, length}
use Rattle.tree_same.proofs.patterns.+patterns.Given as goal

abbrev pub invariant-same_patterns-loop-i : goal.invariant-same_patterns-loop-i
invariant-same_patterns-loop-i l = (length l.a ≡ length l.b) × (take l.i l.a ≡ take l.i l.b)

abbrev pub invariant-same_pat_links-loop-i : goal.invariant-same_pat_links-loop-i
invariant-same_pat_links-loop-i l = (length l.a ≡ length l.b) × (take l.i l.a ≡ take l.i l.b)

abbrev pub invariant-same_apats-loop-i : goal.invariant-same_apats-loop-i
invariant-same_apats-loop-i l = (length l.a ≡ length l.b) × (take l.i l.a ≡ take l.i l.b)

abbrev pub invariant-same_fpats-loop-i : goal.invariant-same_fpats-loop-i
invariant-same_fpats-loop-i l = (length l.a ≡ length l.b) × (take l.i l.a ≡ take l.i l.b)
