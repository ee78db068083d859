use Rattle.std.proofs.Common.{sym, ◌∙◌}
use Rattle.hs_lex.proofs.Numbers.{many_run}
use Rattle.hs_lex.proofs.number.many_at.Goals as goal

pub returns : goal.returns
returns c = many_run _ _ _ _ c.in_ok-c.c c.in_ok-c.ensures.is (sym c.is_in.ensures ∙ c.if-not-is_in.false) c.run.ensures.runs
