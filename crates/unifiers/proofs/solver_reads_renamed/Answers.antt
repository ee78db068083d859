use Rattle.unifiers.proofs.Renaming.{reads_renamed}
use Rattle.unifiers.proofs.solver_reads_renamed.Goals as goal

pub returns : goal.returns
returns c = reads_renamed
