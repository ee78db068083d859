use Rattle.unifiers.proofs.Renaming.{none_alike}
use Rattle.unifiers.proofs.renamed_has_none_alike.Goals as goal

pub returns : goal.returns
returns c = none_alike
