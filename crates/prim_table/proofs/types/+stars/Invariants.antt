use Rattle.prim_table.proofs.types.+stars.Given as goal

abbrev pub decreases-stars : goal.decreases-stars
decreases-stars l = l.count
