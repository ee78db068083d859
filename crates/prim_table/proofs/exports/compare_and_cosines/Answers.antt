use Rattle.prim_table.proofs.exports.compare_and_cosines.Goals as goal

pub returns : goal.returns
returns c = rw c.in_ok-method.ensures at c.two_methods.ensures
