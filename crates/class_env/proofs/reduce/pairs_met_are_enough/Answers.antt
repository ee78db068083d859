use Rattle.class_env.proofs.Reading.{pairs_met}
use Rattle.class_env.proofs.reduce.pairs_met_are_enough.Goals as goal

pub returns : goal.returns
returns c = pairs_met
