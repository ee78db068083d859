use Rattle.hs_lex.proofs.Escapes.{control_some, within}
use Rattle.hs_lex.proofs.escape.control_at.Goals as goal

pub returns : goal.returns
returns c = control_some _ _ c.in-Some.c c.in-Some.ensures.is (within 64 95 c.in-Some.c c.if-c-lt64.false c.if-c-gt95.false)
