use Rattle.hs_lex.proofs.Escapes.{numeral_over, numeral_some}
use Rattle.hs_lex.proofs.escape.numeral_at.Goals as goal

pub returns-then-value-gt-LIMIT : goal.returns-then-value-gt-LIMIT
returns-then-value-gt-LIMIT c = numeral_over c.args.base _ _ _ c.value_at-value.ensures c.if-value-gt-LIMIT.true

pub returns : goal.returns
returns c = numeral_some c.args.base _ _ _ _ c.digits_of.ensures (c.begins.ensures.yes c.if-not-begins.false) c.value_at-value.ensures c.if-value-gt-LIMIT.false
