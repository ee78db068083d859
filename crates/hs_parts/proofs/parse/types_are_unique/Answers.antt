use Rattle.hs_parts.proofs.Whole.{types_unique}
use Rattle.hs_parts.proofs.parse.types_are_unique.Goals as goal

pub returns : goal.returns
returns c = types_unique
