use Rattle.mod_graph.proofs.InOrder.{errors_rise, in_order_keeps, in_order_makes_none}
use Rattle.mod_graph.proofs.law.errors_are_in_order.Goals as goal

pub returns : goal.returns
returns c = (errors_rise, λ ds d. (in_order_makes_none ds d, in_order_keeps ds d))
