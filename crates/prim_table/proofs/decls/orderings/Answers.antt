use Rattle.prim_table.proofs.decls.orderings.Goals as goal

pub returns : goal.returns
returns c = rw c.in_ok-constrs.ensures at c.data_type.ensures
