use Rattle.prim_table.proofs.types.+tuples.Given as goal

abbrev pub decreases-tuples : goal.decreases-tuples
decreases-tuples l = l.count
