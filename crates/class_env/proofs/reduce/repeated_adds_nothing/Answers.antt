use Rattle.class_env.proofs.Order.{repeated}
use Rattle.class_env.proofs.reduce.repeated_adds_nothing.Goals as goal

pub returns : goal.returns
returns c = repeated
