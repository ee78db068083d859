use Rattle.prim_table.proofs.exports.fifth_values.Goals as goal

pub returns : goal.returns
returns c = rw c.in_ok-two_methods.ensures at c.compare_and_cosines.ensures
