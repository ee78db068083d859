use Rattle.unifiers.proofs.Laws.{one_after_another}
use Rattle.unifiers.proofs.one_after_another_is_most_general.Goals as goal

pub returns : goal.returns
returns c = one_after_another
