use Rattle.own_env.proofs.Told.{told}
use Rattle.own_env.proofs.own_env.own_answers_are_told.Goals as goal

pub returns : goal.returns
returns c = told
