use Rattle.build_theory.proofs.Stores.{empty_is_clean}
use Rattle.build_theory.proofs.empty_store_is_clean.Goals as goal

pub returns : goal.returns
returns g c = empty_is_clean
