use Rattle.build_theory.proofs.Sweep.{sweep_agrees}
use Rattle.build_theory.proofs.sweep_agrees.Goals as goal

pub returns : goal.returns
returns g c = sweep_agrees
