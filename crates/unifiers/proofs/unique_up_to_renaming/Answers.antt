use Rattle.unifiers.proofs.Laws.{unique_up_to_renaming}
use Rattle.unifiers.proofs.unique_up_to_renaming.Goals as goal

pub returns : goal.returns
returns c = unique_up_to_renaming
