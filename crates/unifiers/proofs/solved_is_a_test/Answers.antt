use Rattle.unifiers.proofs.Solving.{solved_test}
use Rattle.unifiers.proofs.solved_is_a_test.Goals as goal

pub returns : goal.returns
returns c = solved_test
