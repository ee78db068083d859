use Rattle.build_theory.proofs.Judged.{stores_by_lookup}
use Rattle.build_theory.proofs.stores_by_lookup.Goals as goal

pub returns : goal.returns
returns g c = stores_by_lookup
