use Rattle.class_env.proofs.Order.{order}
use Rattle.class_env.proofs.reduce.order_changes_nothing.Goals as goal

pub returns : goal.returns
returns c = order
