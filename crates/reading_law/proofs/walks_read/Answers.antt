use Rattle.reading_law.proofs.Walks.{walk_reads, reached_reads}
use Rattle.reading_law.proofs.walks_read.Goals as goal

pub returns-clause-walk : goal.returns-clause-walk
returns-clause-walk g c = walk_reads

pub returns-clause-reached : goal.returns-clause-reached
returns-clause-reached g c = reached_reads
