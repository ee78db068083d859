use Rattle.plain_build.proofs.Chained.{nodes_stand_before}
use Rattle.plain_build.proofs.build.needs_stand_before_nodes.Goals as goal

pub returns : goal.returns
returns c = nodes_stand_before
