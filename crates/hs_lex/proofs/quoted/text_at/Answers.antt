use Rattle.hs_lex.proofs.Strings.{text_open, text_some, not_empty, not_other}
use Rattle.hs_lex.proofs.quoted.text_at.Goals as goal

pub returns-in_default-next_char : goal.returns-in_default-next_char
returns-in_default-next_char c = text_open _ _ c.in-Some.c c.in-Some.ensures.is _ c.pieces-rest.ensures (not_empty 34 _ c.in_default-next_char.ensures.is)

pub returns-then-d-ne34 : goal.returns-then-d-ne34
returns-then-d-ne34 c = text_open _ _ c.in-Some.c c.in-Some.ensures.is _ c.pieces-rest.ensures (not_other 34 _ _ c.in-Some-next_char.d c.in-Some-next_char.ensures.is c.if-d-ne34.true)

pub returns : goal.returns
returns c = text_some _ _ c.in-Some.c c.in-Some.ensures.is _ _ c.in-Some-next_char.d c.if-c-ne34.false c.pieces-rest.ensures c.in-Some-next_char.ensures.is c.if-d-ne34.false
