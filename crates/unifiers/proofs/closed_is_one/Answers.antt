use Rattle.unifiers.proofs.Reading.{closed_one}
use Rattle.unifiers.proofs.closed_is_one.Goals as goal

pub returns : goal.returns
returns c = closed_one
