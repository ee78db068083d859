use Rattle.class_env.proofs.Decided.{reduced_follows}
use Rattle.class_env.proofs.entail_laws.reduced_follows.Goals as goal

pub returns : goal.returns
returns c = reduced_follows
