use Rattle.hs_lex.proofs.Strings.{gap_open, gap_some, not_empty, not_other}
use Rattle.hs_lex.proofs.quoted.gap_at.Goals as goal

pub returns-in_default : goal.returns-in_default
returns-in_default c = gap_open _ _ c.run-rest.ensures.runs (not_empty 92 _ c.in_default.ensures.is)

pub returns-then-c-ne92 : goal.returns-then-c-ne92
returns-then-c-ne92 c = gap_open _ _ c.run-rest.ensures.runs (not_other 92 _ _ c.in-Some.c c.in-Some.ensures.is c.if-c-ne92.true)

pub returns : goal.returns
returns c = gap_some _ _ _ c.in-Some.c (c.begins.ensures.yes c.if-not-begins.false) c.run-rest.ensures.runs c.in-Some.ensures.is c.if-c-ne92.false
