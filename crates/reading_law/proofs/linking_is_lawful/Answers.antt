use Rattle.reading_law.proofs.Example.{linking_exact, composed, kept, compared, linking_reads}
use Rattle.reading_law.proofs.linking_is_lawful.Goals as goal

pub returns-clause-exact : goal.returns-clause-exact
returns-clause-exact c = linking_exact

pub returns-clause-composed : goal.returns-clause-composed
returns-clause-composed c = composed

pub returns-clause-kept : goal.returns-clause-kept
returns-clause-kept c = kept

pub returns-clause-compared : goal.returns-clause-compared
returns-clause-compared c = compared

pub returns-clause-law : goal.returns-clause-law
returns-clause-law c = linking_reads
