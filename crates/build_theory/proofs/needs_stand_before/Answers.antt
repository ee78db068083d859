use Rattle.build_theory.proofs.Cycles.{needs_stand_before}
use Rattle.build_theory.proofs.needs_stand_before.Goals as goal

pub returns : goal.returns
returns g c = needs_stand_before
