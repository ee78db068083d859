use Rattle.build_theory.proofs.ByNode.{order_is_by_node}
use Rattle.build_theory.proofs.order_is_by_node.Goals as goal

pub returns : goal.returns
returns g c = order_is_by_node
