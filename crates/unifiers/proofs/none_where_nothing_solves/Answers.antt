use Rattle.unifiers.proofs.Solving.{none_where}
use Rattle.unifiers.proofs.none_where_nothing_solves.Goals as goal

pub returns : goal.returns
returns c = none_where
