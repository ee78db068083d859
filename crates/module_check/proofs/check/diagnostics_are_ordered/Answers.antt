use Rattle.module_check.proofs.Ordered.{checks_are_ordered}
use Rattle.module_check.proofs.check.diagnostics_are_ordered.Goals as goal

pub returns : goal.returns
returns c = checks_are_ordered
