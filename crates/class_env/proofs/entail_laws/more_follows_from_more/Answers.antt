use Rattle.class_env.proofs.Closed.{more_follows}
use Rattle.class_env.proofs.entail_laws.more_follows_from_more.Goals as goal

pub returns : goal.returns
returns c = more_follows
