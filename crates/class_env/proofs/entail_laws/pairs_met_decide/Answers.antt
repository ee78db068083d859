use Rattle.class_env.proofs.Decided.{met_is_enough}
use Rattle.class_env.proofs.entail_laws.pairs_met_decide.Goals as goal

pub returns : goal.returns
returns c = met_is_enough
