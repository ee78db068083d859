use Rattle.build_theory.proofs.Waits.{over_leaves_the_blocked}
use Rattle.build_theory.proofs.over_leaves_the_blocked.Goals as goal

pub returns : goal.returns
returns g c = over_leaves_the_blocked
