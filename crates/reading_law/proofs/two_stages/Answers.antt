use Rattle.reading_law.proofs.Example.{stage_reads}
use Rattle.reading_law.proofs.two_stages.Goals as goal

pub returns-clause-reads : goal.returns-clause-reads
returns-clause-reads c = stage_reads
