use Rattle.unifiers.proofs.Solving.{most_general_solution}
use Rattle.unifiers.proofs.solution_is_most_general.Goals as goal

pub returns : goal.returns
returns c = most_general_solution
