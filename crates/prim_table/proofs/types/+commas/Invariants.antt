use Rattle.prim_table.proofs.types.+commas.Given as goal

abbrev pub decreases-commas : goal.decreases-commas
decreases-commas l = l.count
