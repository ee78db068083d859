use Rattle.numbered_nodes.specs.Edges.{Relates}
use Rattle.numbered_nodes.proofs.OrderLaws.{one_order}
use Rattle.numbered_nodes.proofs.Ranks.{each_once}
use Rattle.numbered_nodes.proofs.order.order_is_one.Goals as goal

pub returns-clause-one : goal.returns-clause-one
returns-clause-one c = λ needs n. one_order (Relates needs) n

pub returns-clause-once : goal.returns-clause-once
returns-clause-once c = each_once
