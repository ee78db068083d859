use Rattle.std.proofs.Common.{sym, ◌∙◌}
use Rattle.hs_parts.specs.TypeReaders.{qualified_tail}
use Rattle.expr_parts.specs.Expressions.{before_comma_at}
use Rattle.expr_parts.proofs.Choices.{or_other}
use Rattle.expr_parts.proofs.part.type_before_sign.Goals as goal

pub returns : goal.returns
returns c = or_other c.in_ok-found.found (before_comma_at c.args.left c.args.tokens.now) (qualified_tail c.args.left c.args.tokens.now)
    c.qualified_tail.result c.in_ok-found.ensures (sym c.is_some.ensures ∙ c.if-is_some.false) c.qualified_tail.ensures
