use Rattle.class_env.proofs.Decided.{decides}
use Rattle.class_env.proofs.entail_laws.reducing_decides.Goals as goal

pub returns : goal.returns
returns c = λ s m ws w on. decides s m ws w on
