use Rattle.std.proofs.Common.{sym, ◌∙◌}
use Rattle.hs_lex.proofs.Escapes.{char_some, control_by, octal_by, hexadecimal_by, decimal_by, ascii_by}
use Rattle.hs_lex.proofs.escape.escape_at.Goals as goal

pub returns-then-is_char_escape : goal.returns-then-is_char_escape
returns-then-is_char_escape c = char_some _ _ c.in-Some.c c.in-Some.ensures.is (sym c.is_char_escape.ensures ∙ c.if-is_char_escape.true)

pub returns-then-c-eq94 : goal.returns-then-c-eq94
returns-then-c-eq94 c = control_by _ _ c.in-Some.c c.in-Some.ensures.is c.if-c-eq94.true _ c.control_at.ensures

pub returns-then-c-eq111 : goal.returns-then-c-eq111
returns-then-c-eq111 c = octal_by _ _ c.in-Some.c c.in-Some.ensures.is c.if-c-eq111.true _ c.numeral_at.ensures

pub returns-then-c-eq120 : goal.returns-then-c-eq120
returns-then-c-eq120 c = hexadecimal_by _ _ c.in-Some.c c.in-Some.ensures.is c.if-c-eq120.true _ c.numeral_at-then-c-eq120.ensures

pub returns-then-is_in : goal.returns-then-is_in
returns-then-is_in c = decimal_by _ _ c.in-Some.c c.in-Some.ensures.is (sym c.is_in.ensures ∙ c.if-is_in.true) _ c.numeral_at-then-is_in.ensures

pub returns : goal.returns
returns c = ascii_by _ _ c.in-Some.c c.in-Some.ensures.is (sym c.is_char_escape.ensures ∙ c.if-is_char_escape.false) c.if-c-eq94.false c.if-c-eq111.false c.if-c-eq120.false (sym c.is_in.ensures ∙ c.if-is_in.false) _ c.ascii_at.ensures
