use Rattle.std.proofs.Common.{sym, ◌∙◌}
use Rattle.expr_parts.specs.Expressions.{con_at, literal_at}
use Rattle.expr_parts.proofs.Choices.{or_other}
use Rattle.expr_parts.proofs.part.con_or_literal.Goals as goal

pub returns : goal.returns
returns c = or_other c.in_ok-found.found (con_at c.args.tokens.now) (literal_at c.args.tokens.now)
    c.literal.result c.in_ok-found.ensures (sym c.is_some.ensures ∙ c.if-is_some.false) c.literal.ensures
