use Rattle.build_theory.proofs.Stores.{change_nothing}
use Rattle.build_theory.proofs.stores_change_nothing.Goals as goal

pub returns : goal.returns
returns g c = change_nothing
