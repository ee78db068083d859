use Rattle.hs_lex.proofs.Signs.{dashes_some, dashes_symbol, dashes_lone, dashes_first, dashes_second, dashes_end}
use Rattle.hs_lex.proofs.sign.dashes_at.Goals as goal

pub returns-in_default : goal.returns-in_default
returns-in_default c = dashes_end _ c.in_default.ensures.is

pub returns-then-c-ne45 : goal.returns-then-c-ne45
returns-then-c-ne45 c = dashes_first _ _ c.in-Some.c c.in-Some.ensures.is c.if-c-ne45.true

pub returns-in_default-next_char : goal.returns-in_default-next_char
returns-in_default-next_char c = dashes_lone _ _ c.in-Some.c c.in-Some.ensures.is c.in_default-next_char.ensures.is

pub returns-then-d-ne45 : goal.returns-then-d-ne45
returns-then-d-ne45 c = dashes_second _ _ _ c.in-Some.c c.in-Some-next_char.d c.in-Some.ensures.is c.in-Some-next_char.ensures.is c.if-d-ne45.true

pub returns-then-begins : goal.returns-then-begins
returns-then-begins c = dashes_symbol _ _ c.run-rest.ensures.runs (c.begins.ensures.yes c.if-begins.true)

pub returns : goal.returns
returns c = dashes_some _ _ _ _ c.in-Some.c c.in-Some-next_char.d c.in-Some.ensures.is c.in-Some-next_char.ensures.is c.if-c-ne45.false c.if-d-ne45.false c.run-rest.ensures.runs (c.begins.ensures.no c.if-begins.false)
