use Rattle.std.proofs.Common.{sym, ◌∙◌}
use Rattle.hs_lex.proofs.Specials.{special_some}
use Rattle.hs_lex.proofs.sign.special_at.Goals as goal

pub returns-then-c-ne123 : goal.returns-then-c-ne123
returns-then-c-ne123 c = special_some _ _ c.in-Some.c c.in-Some.ensures.is (sym c.class_of.ensures ∙ c.in-Special.is) (λ e. absurd (c.if-c-ne123.true e))

pub returns : goal.returns
returns c = special_some _ _ c.in-Some.c c.in-Some.ensures.is (sym c.class_of.ensures ∙ c.in-Special.is) (λ e. c.begins.ensures.no c.if-begins.false)
