use Rattle.hs_lex.proofs.Numbers.{fraction_some}
use Rattle.hs_lex.proofs.number.fraction_at.Goals as goal

pub returns-in-Some-digits_at : goal.returns-in-Some-digits_at
returns-in-Some-digits_at c = fraction_some _ _ c.in-Some.c c.in-Some.ensures.is _ c.if-c-ne46.false c.in-Some-digits_at.ensures
