use Rattle.hs_parts.proofs.Whole.{patterns_unique}
use Rattle.hs_parts.proofs.parse.patterns_are_unique.Goals as goal

pub returns : goal.returns
returns c = patterns_unique
