use Rattle.hs_lex.proofs.Strings.{not_empty, not_other}
use Rattle.hs_lex.proofs.Chars.{char_end, char_other, char_none, char_open, char_some}
use Rattle.hs_lex.proofs.char_literal.char_at.Goals as goal

pub returns-in_default : goal.returns-in_default
returns-in_default c = char_end _ c.in_default.ensures.is

pub returns-then-c-ne39 : goal.returns-then-c-ne39
returns-then-c-ne39 c = char_other _ _ c.in-Some.c c.in-Some.ensures.is c.if-c-ne39.true

pub returns-in_default-inside_at : goal.returns-in_default-inside_at
returns-in_default-inside_at c = char_none _ _ c.in-Some.c c.in-Some.ensures.is c.in_default-inside_at.ensures

pub returns-in_default-next_char : goal.returns-in_default-next_char
returns-in_default-next_char c = char_open _ _ c.in-Some.c c.in-Some.ensures.is _ c.in-Some-inside_at.ensures (not_empty 39 _ c.in_default-next_char.ensures.is)

pub returns-then-d-ne39 : goal.returns-then-d-ne39
returns-then-d-ne39 c = char_open _ _ c.in-Some.c c.in-Some.ensures.is _ c.in-Some-inside_at.ensures (not_other 39 _ _ c.in-Some-next_char.d c.in-Some-next_char.ensures.is c.if-d-ne39.true)

pub returns : goal.returns
returns c = char_some _ _ c.in-Some.c c.in-Some.ensures.is _ _ c.in-Some-next_char.d c.if-c-ne39.false c.in-Some-inside_at.ensures c.in-Some-next_char.ensures.is c.if-d-ne39.false
