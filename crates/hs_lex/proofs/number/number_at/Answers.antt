use Rattle.hs_lex.specs.declared.number.Base.TheVariants.{Octal, Hexadecimal}
use Rattle.hs_lex.proofs.Numbers.{marked_number, number_of_decimal}
use Rattle.hs_lex.proofs.number.number_at.Goals as goal

pub returns-in-Some : goal.returns-in-Some
returns-in-Some c = marked_number Octal _ _ c.in-Some.ensures c.in-Some.ensures.is

pub returns-in-Some-marked_at : goal.returns-in-Some-marked_at
returns-in-Some-marked_at c = marked_number Hexadecimal _ _ c.in-Some-marked_at.ensures c.in-Some-marked_at.ensures.is

pub returns : goal.returns
returns c = number_of_decimal _ c.in_default.ensures c.in_default-marked_at.ensures _ c.decimal_at.ensures
