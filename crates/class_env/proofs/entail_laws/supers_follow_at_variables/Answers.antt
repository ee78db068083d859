use Rattle.class_env.proofs.Closed.{variable_gives}
use Rattle.class_env.proofs.entail_laws.supers_follow_at_variables.Goals as goal

pub returns : goal.returns
returns c = λ s m ws c d t v g q. variable_gives s m ws c d t v g q
