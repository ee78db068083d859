use Rattle.build_theory.proofs.Judged.{results_are_steps}
use Rattle.build_theory.proofs.results_are_steps.Goals as goal

pub returns : goal.returns
returns g c = results_are_steps
