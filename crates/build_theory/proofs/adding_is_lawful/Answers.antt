use Rattle.build_theory.proofs.Example.{adding_ordered, adding_exact}
use Rattle.build_theory.proofs.Reading.{adding_reads}
use Rattle.build_theory.proofs.adding_is_lawful.Goals as goal

pub returns-clause-ordered : goal.returns-clause-ordered
returns-clause-ordered c = adding_ordered

pub returns-clause-exact : goal.returns-clause-exact
returns-clause-exact c = adding_exact

pub returns-clause-reading : goal.returns-clause-reading
returns-clause-reading c = adding_reads
