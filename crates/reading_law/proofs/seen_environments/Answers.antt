use Rattle.reading_law.proofs.Stages.{seen_reads}
use Rattle.reading_law.proofs.seen_environments.Goals as goal

pub returns : goal.returns
returns g c ask tell see f r among = seen_reads ask tell see f r among
