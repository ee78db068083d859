use Rattle.hs_parts.proofs.types.+type_tail.Given as goal

abbrev pub decreases-type_tail : goal.decreases-type_tail
decreases-type_tail l = l.left
