use Rattle.prim_table.proofs.class_decls.fractional_class.Goals as goal

pub returns : goal.returns
returns c = rw c.in_ok-methods.ensures at c.class_below.ensures
