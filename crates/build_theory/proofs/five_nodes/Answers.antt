use Rattle.build_theory.proofs.Example.{sweeps, over, placed}
use Rattle.build_theory.proofs.five_nodes.Goals as goal

pub returns-clause-sweep : goal.returns-clause-sweep
returns-clause-sweep c = sweeps

pub returns-clause-over : goal.returns-clause-over
returns-clause-over c = over

pub returns-clause-placed : goal.returns-clause-placed
returns-clause-placed c = placed
