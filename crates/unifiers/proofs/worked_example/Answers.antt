use Rattle.std.proofs.Common.{refl}
use Rattle.unifiers.specs.Solver.{solve}
use Rattle.unifiers.proofs.worked_example.Goals as goal

pub returns : goal.returns
unfolding solve
returns c = (refl, refl, refl, refl, refl, refl)
