use Rattle.build_theory.proofs.Judged.{sound_was_checked}
use Rattle.build_theory.proofs.sound_was_checked.Goals as goal

pub returns : goal.returns
returns g c = sound_was_checked
