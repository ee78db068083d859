use Rattle.hs_lex.proofs.Signs.{operator_some, operator_dashes}
use Rattle.hs_lex.proofs.sign.operator_at.Goals as goal

pub returns-in-Some : goal.returns-in-Some
returns-in-Some c = operator_dashes _ _ c.in-Some.ensures

pub returns : goal.returns
returns c = operator_some _ _ (c.begins.ensures.yes c.if-not-begins.false) c.in_default.ensures c.run.ensures.runs
