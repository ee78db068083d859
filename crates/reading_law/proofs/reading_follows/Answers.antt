use Rattle.reading_law.proofs.Follows.{follows, builds}
use Rattle.reading_law.proofs.reading_follows.Goals as goal

pub returns-clause-law : goal.returns-clause-law
returns-clause-law g c = follows

pub returns-clause-builds : goal.returns-clause-builds
returns-clause-builds g c = builds
