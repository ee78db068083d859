use Rattle.mod_graph.proofs.LeastNeeds.{needs_are_least}
use Rattle.mod_graph.proofs.law.needs_are_least.Goals as goal

pub returns : goal.returns
returns c = needs_are_least
