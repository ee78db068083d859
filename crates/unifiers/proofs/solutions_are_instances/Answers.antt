use Rattle.unifiers.proofs.Laws.{solutions_are_instances}
use Rattle.unifiers.proofs.solutions_are_instances.Goals as goal

pub returns : goal.returns
returns c = solutions_are_instances
