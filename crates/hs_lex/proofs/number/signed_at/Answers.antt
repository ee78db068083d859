use Rattle.std.proofs.Common.{sym, ◌∙◌}
use Rattle.hs_lex.proofs.Numbers.{signed_some, signed_none, plain_some, plain_none}
use Rattle.hs_lex.proofs.Sequence.{reads_by}
use Rattle.hs_lex.proofs.number.signed_at.Goals as goal

pub returns-then-is_sign : goal.returns-then-is_sign
returns-then-is_sign c =
    let e = c.in_ok-c.ensures.is in
    let y = sym c.is_sign.ensures ∙ c.if-is_sign.true in
    reads_by _ _ _ _ _ (λ rest h. signed_some _ _ c.in_ok-c.c e rest y h) (signed_none _ _ c.in_ok-c.c e y) c.digits_at.ensures

pub returns : goal.returns
returns c =
    let e = c.in_ok-c.ensures.is in
    let y = sym c.is_sign.ensures ∙ c.if-is_sign.false in
    reads_by _ _ _ _ _ (λ rest h. plain_some _ _ c.in_ok-c.c e rest y h) (plain_none _ _ c.in_ok-c.c e y) c.digits_at-2.ensures
