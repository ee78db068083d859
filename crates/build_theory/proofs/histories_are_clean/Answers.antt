use Rattle.build_theory.proofs.Honest.{histories_clean}
use Rattle.build_theory.proofs.histories_are_clean.Goals as goal

pub returns : goal.returns
returns g c = histories_clean
