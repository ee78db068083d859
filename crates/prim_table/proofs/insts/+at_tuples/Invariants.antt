use Rattle.prim_table.proofs.insts.+at_tuples.Given as goal

abbrev pub decreases-at_tuples : goal.decreases-at_tuples
decreases-at_tuples l = l.count
