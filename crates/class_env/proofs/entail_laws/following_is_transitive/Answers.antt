use Rattle.class_env.proofs.Closed.{follow_on}
use Rattle.class_env.proofs.entail_laws.following_is_transitive.Goals as goal

pub returns : goal.returns
returns c = λ s m ws more c t each q. follow_on s m ws more each q
