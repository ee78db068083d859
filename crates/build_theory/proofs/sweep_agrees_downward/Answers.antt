use Rattle.build_theory.proofs.Sweep.{sweep_agrees_downward}
use Rattle.build_theory.proofs.sweep_agrees_downward.Goals as goal

pub returns : goal.returns
returns g c = sweep_agrees_downward
