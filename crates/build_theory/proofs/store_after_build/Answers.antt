use Rattle.build_theory.proofs.After.{store_after_build}
use Rattle.build_theory.proofs.store_after_build.Goals as goal

pub returns : goal.returns
returns g c = store_after_build
