use Rattle.build_theory.proofs.Sweep.{every_sweep_agrees}
use Rattle.build_theory.proofs.every_sweep_agrees.Goals as goal

pub returns : goal.returns
returns g c = every_sweep_agrees
