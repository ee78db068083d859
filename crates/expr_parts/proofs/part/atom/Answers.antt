use Rattle.std.proofs.Common.{sym, ◌∙◌}
use Rattle.expr_parts.specs.Expressions.{var_atom_at, con_or_literal_at}
use Rattle.expr_parts.proofs.Choices.{or_other}
use Rattle.expr_parts.proofs.part.atom.Goals as goal

pub returns : goal.returns
returns c = or_other c.in_ok-found.found (var_atom_at c.args.tokens.now) (con_or_literal_at c.args.tokens.now)
    c.con_or_literal.result c.in_ok-found.ensures (sym c.is_some.ensures ∙ c.if-is_some.false) c.con_or_literal.ensures
