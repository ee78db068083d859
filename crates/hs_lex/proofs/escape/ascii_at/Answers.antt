use Rattle.std.proofs.Common.{sym, ◌∙◌}
use Rattle.hs_lex.proofs.Escapes.{three_some, two_some, name_none, third_differs}
use Rattle.hs_lex.proofs.escape.ascii_at.Goals as goal

pub returns-in-Some-third_at : goal.returns-in-Some-third_at
returns-in-Some-third_at c = let h = c.in-Some-third_at.ensures in three_some _ _ _ c.in-Some.a c.in-Some-next_char.b c.in-Some.ensures.is c.in-Some-next_char.ensures.is _ h.0 h.1 h.2

pub returns-then-not-is_pair : goal.returns-then-not-is_pair
returns-then-not-is_pair c = name_none _ _ _ c.in-Some.a c.in-Some-next_char.b c.in-Some.ensures.is c.in-Some-next_char.ensures.is (sym c.is_pair.ensures ∙ c.if-not-is_pair.true) c.in_default-third_at.ensures

pub returns : goal.returns
returns c =
    two_some _ _ _ c.in-Some.a c.in-Some-next_char.b c.in-Some.ensures.is c.in-Some-next_char.ensures.is (sym c.is_pair.ensures ∙ c.if-not-is_pair.false)
    (third_differs c.in-Some.a c.in-Some-next_char.b _ c.in_default-third_at.ensures)
