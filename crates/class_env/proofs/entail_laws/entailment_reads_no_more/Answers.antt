use Rattle.class_env.proofs.Closed.{reads_no_more}
use Rattle.class_env.proofs.entail_laws.entailment_reads_no_more.Goals as goal

pub returns : goal.returns
returns c = reads_no_more
