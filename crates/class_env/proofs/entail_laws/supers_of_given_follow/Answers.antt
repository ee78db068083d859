use Rattle.class_env.proofs.Closed.{supers_follow}
use Rattle.class_env.proofs.entail_laws.supers_of_given_follow.Goals as goal

pub returns : goal.returns
returns c = supers_follow
