use Rattle.numbered_nodes.proofs.Ranks.{free_behind}
use Rattle.numbered_nodes.proofs.order.needs_come_first.Goals as goal

pub returns : goal.returns
returns c = free_behind
