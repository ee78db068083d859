use Rattle.unifiers.proofs.Reading.{reads_the_same}
use Rattle.unifiers.proofs.solver_reads_the_same.Goals as goal

pub returns : goal.returns
returns c = reads_the_same
