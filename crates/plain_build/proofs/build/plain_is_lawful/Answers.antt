use Rattle.plain_build.proofs.Order.{plain_ordered, plain_exact}
use Rattle.plain_build.proofs.build.plain_is_lawful.Goals as goal

pub returns-clause-ordered : goal.returns-clause-ordered
returns-clause-ordered c = plain_ordered

pub returns-clause-exact : goal.returns-clause-exact
returns-clause-exact c = plain_exact
