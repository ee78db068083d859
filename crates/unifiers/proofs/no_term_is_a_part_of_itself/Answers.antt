use Rattle.unifiers.proofs.Laws.{no_part}
use Rattle.unifiers.proofs.no_term_is_a_part_of_itself.Goals as goal

pub returns : goal.returns
returns c = no_part
