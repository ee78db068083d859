use Rattle.std.proofs.Common.{◌≡◌, length, arith}
use Rattle.hs_lex.proofs.Numbers.{integer_some, float_some}
use Rattle.hs_lex.proofs.number.decimal_at.Goals as goal

pub returns-then-rest-whole : goal.returns-then-rest-whole
returns-then-rest-whole c = integer_some _ _ _ _ c.in-Some.ensures c.fraction_at-fraction.ensures c.exponent_at-rest.ensures (let k : length c.exponent_at-rest.result.now ≡ length c.in-Some.whole.now = omega arith in k)

pub returns : goal.returns
returns c = float_some _ _ _ _ c.in-Some.ensures c.fraction_at-fraction.ensures c.exponent_at-rest.ensures (λ q. let k : length c.exponent_at-rest.result.now ≡ length c.in-Some.whole.now = q in omega arith)
