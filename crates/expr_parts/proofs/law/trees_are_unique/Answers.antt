use Rattle.expr_parts.proofs.Whole.{unique}
use Rattle.expr_parts.proofs.law.trees_are_unique.Goals as goal

pub returns : goal.returns
returns c = unique
