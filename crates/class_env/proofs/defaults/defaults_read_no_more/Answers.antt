use Rattle.class_env.proofs.Defaulting.{default_alike}
use Rattle.class_env.proofs.defaults.defaults_read_no_more.Goals as goal

pub returns : goal.returns
returns c = λ fs gs v ws o above first second. default_alike fs gs v ws above first second o
