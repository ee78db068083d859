use Rattle.plain_build.proofs.Chained.{lead_on}
use Rattle.plain_build.proofs.build.needs_lead_on.Goals as goal

pub returns : goal.returns
returns c = lead_on
