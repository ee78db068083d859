use Rattle.std.proofs.Common.{sym, ◌∙◌}
use Rattle.std.proofs.lemmas.Bool.{false≢true}
use Rattle.hs_lex.specs.Quoted.{Plain}
use Rattle.hs_lex.proofs.Strings.{piece_some, piece_escape, piece_by_gap}
use Rattle.hs_lex.proofs.quoted.piece_at.Goals as goal

pub returns-then-is_plain : goal.returns-then-is_plain
returns-then-is_plain c = piece_some _ _ (Plain c.in-Some.c) (c.is_plain.ensures.0 c.if-is_plain.true) c.in-Some.ensures.is

pub returns-in-Some-escape_at : goal.returns-in-Some-escape_at
returns-in-Some-escape_at c = piece_escape _ _ c.in-Some.c c.in-Some.ensures.is c.if-c-ne92.false _ c.in-Some-escape_at.ensures

pub returns : goal.returns
returns c =
    piece_by_gap _ _ c.in-Some.c c.in-Some.ensures.is (λ p. false≢true (sym c.if-is_plain.false ∙ c.is_plain.ensures.1 p)) c.if-c-ne92.false c.in_default-escape_at.ensures _ c.gap_at.ensures
