use Rattle.class_env.proofs.Closed.{instances_follow}
use Rattle.class_env.proofs.entail_laws.instances_follow.Goals as goal

pub returns : goal.returns
returns c = instances_follow
