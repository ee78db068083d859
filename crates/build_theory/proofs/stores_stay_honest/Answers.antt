use Rattle.build_theory.proofs.Honest.{stay_honest}
use Rattle.build_theory.proofs.stores_stay_honest.Goals as goal

pub returns : goal.returns
returns g c = stay_honest
