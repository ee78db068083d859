use Rattle.build_theory.proofs.Whole.{order_is_whole}
use Rattle.build_theory.proofs.order_is_whole.Goals as goal

pub returns : goal.returns
returns g c = order_is_whole
