use Rattle.std.proofs.Common.{sym, ◌∙◌}
use Rattle.hs_lex.proofs.Numbers.{exponent_some}
use Rattle.hs_lex.proofs.number.exponent_at.Goals as goal

pub returns-in-Some-signed_at : goal.returns-in-Some-signed_at
returns-in-Some-signed_at c = exponent_some _ _ c.in-Some.c c.in-Some.ensures.is _ (sym c.is_e.ensures ∙ c.if-not-is_e.false) c.in-Some-signed_at.ensures
