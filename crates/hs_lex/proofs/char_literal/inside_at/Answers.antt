use Rattle.std.proofs.Common.{sym, ◌∙◌}
use Rattle.std.proofs.lemmas.Bool.{false≢true}
use Rattle.hs_lex.proofs.Chars.{inside_end, graphic_some, inside_other, inside_empty, inside_by}
use Rattle.hs_lex.proofs.char_literal.inside_at.Goals as goal

pub returns-in_default : goal.returns-in_default
returns-in_default c = inside_end _ c.in_default.ensures.is

pub returns-then-is_graphic : goal.returns-then-is_graphic
returns-then-is_graphic c = graphic_some _ _ c.in-Some.c c.in-Some.ensures.is (c.is_graphic.ensures.0 c.if-is_graphic.true)

pub returns-then-c-ne92 : goal.returns-then-c-ne92
returns-then-c-ne92 c = inside_other _ _ c.in-Some.c c.in-Some.ensures.is (λ p. false≢true (sym c.if-is_graphic.false ∙ c.is_graphic.ensures.1 p)) c.if-c-ne92.true

pub returns-then-begins_with : goal.returns-then-begins_with
returns-then-begins_with c =
    inside_empty _ _ c.in-Some.c c.in-Some.ensures.is (λ p. false≢true (sym c.if-is_graphic.false ∙ c.is_graphic.ensures.1 p)) (c.begins_with.ensures.yes c.if-begins_with.true)

pub returns : goal.returns
returns c =
    inside_by _ _ c.in-Some.c c.in-Some.ensures.is (λ p. false≢true (sym c.if-is_graphic.false ∙ c.is_graphic.ensures.1 p)) c.if-c-ne92.false (c.begins_with.ensures.no c.if-begins_with.false) _ c.escape_at.ensures
