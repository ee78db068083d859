use Rattle.class_env.proofs.Defaulting.{one_default}
use Rattle.class_env.proofs.defaults.one_default.Goals as goal

pub returns : goal.returns
returns c = λ s m v ws a b p q. one_default s m v ws a b p q
