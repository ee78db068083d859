use Rattle.unifiers.proofs.Reading.{scheme_one}
use Rattle.unifiers.proofs.scheme_is_one.Goals as goal

pub returns : goal.returns
returns c = scheme_one
