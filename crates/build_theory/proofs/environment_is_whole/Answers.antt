use Rattle.build_theory.proofs.Judged.{environment_whole}
use Rattle.build_theory.proofs.environment_is_whole.Goals as goal

pub returns : goal.returns
returns g c = environment_whole
