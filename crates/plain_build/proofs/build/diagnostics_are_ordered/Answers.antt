use Rattle.plain_build.proofs.Ordered.{builds_are_ordered}
use Rattle.plain_build.proofs.build.diagnostics_are_ordered.Goals as goal

pub returns : goal.returns
returns c = builds_are_ordered
