use Rattle.build_theory.proofs.Judged.{checked_has_reason}
use Rattle.build_theory.proofs.checked_has_reason.Goals as goal

pub returns : goal.returns
returns g c = checked_has_reason
