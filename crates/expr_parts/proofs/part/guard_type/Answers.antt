use Rattle.std.proofs.Common.{◌∙◌}
use Rattle.expr_parts.proofs.Choices.{guard_type_is}
use Rattle.expr_parts.proofs.part.guard_type.Goals as goal

pub returns : goal.returns
returns c = c.in_ok-found.ensures ∙ guard_type_is c.args.left c.args.tokens.now
