use Rattle.build_theory.proofs.Files.{order_is_nothing}
use Rattle.build_theory.proofs.order_of_files_is_nothing.Goals as goal

pub returns : goal.returns
returns g c = order_is_nothing
