use Rattle.unifiers.proofs.Reading.{instances}
use Rattle.unifiers.proofs.most_general_are_instances.Goals as goal

pub returns : goal.returns
returns c = instances
