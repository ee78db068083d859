use Rattle.prim_table.proofs.insts.+each.Given as goal

abbrev pub decreases-each : goal.decreases-each
decreases-each l = l.count
