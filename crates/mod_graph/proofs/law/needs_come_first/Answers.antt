use Rattle.mod_graph.proofs.NodeOrders.{needs_come_first}
use Rattle.mod_graph.proofs.law.needs_come_first.Goals as goal

pub returns : goal.returns
returns c = needs_come_first
