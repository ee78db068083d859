use Rattle.unifiers.proofs.Numbers.{lists_number}
use Rattle.unifiers.proofs.lists_number_variables.Goals as goal

pub returns : goal.returns
returns c = lists_number
