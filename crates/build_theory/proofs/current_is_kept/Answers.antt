use Rattle.build_theory.proofs.Judged.{current_is_kept}
use Rattle.build_theory.proofs.current_is_kept.Goals as goal

pub returns : goal.returns
returns g c = current_is_kept
