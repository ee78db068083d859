use Rattle.prim_table.proofs.types.+fields.Given as goal

abbrev pub decreases-fields : goal.decreases-fields
decreases-fields l = l.count
