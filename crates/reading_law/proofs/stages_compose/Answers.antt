use Rattle.reading_law.proofs.Stages.{behind_reads, beside_reads, each_reads, shown_reads, taken_reads}
use Rattle.reading_law.proofs.stages_compose.Goals as goal

pub returns-clause-behind : goal.returns-clause-behind
returns-clause-behind g c = behind_reads

pub returns-clause-beside : goal.returns-clause-beside
returns-clause-beside g c = beside_reads

pub returns-clause-each : goal.returns-clause-each
returns-clause-each g c = each_reads

pub returns-clause-shown : goal.returns-clause-shown
returns-clause-shown g c ask f r show s = shown_reads ask f r show s

pub returns-clause-taken : goal.returns-clause-taken
returns-clause-taken g c ask f r take = taken_reads ask f r take
