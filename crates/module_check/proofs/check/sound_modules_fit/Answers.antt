use Rattle.module_check.proofs.Fitting.{checks_fit}
use Rattle.module_check.proofs.check.sound_modules_fit.Goals as goal

pub returns : goal.returns
returns c = checks_fit
