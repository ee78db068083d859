use Rattle.std.proofs.Common.{sym, ◌∙◌}
use Rattle.expr_parts.specs.Expressions.{sig_decl_at, fix_decl_at}
use Rattle.expr_parts.proofs.Choices.{or_other}
use Rattle.expr_parts.proofs.part.plain_decl.Goals as goal

pub returns : goal.returns
returns c = or_other c.in_ok-found.found (sig_decl_at c.args.left c.args.tokens.now) (fix_decl_at c.args.left c.args.tokens.now)
    c.fix_decl.result c.in_ok-found.ensures (sym c.is_some.ensures ∙ c.if-is_some.false) c.fix_decl.ensures
