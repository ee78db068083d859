use Rattle.std.proofs.Common.{sym, ◌∙◌}
use Rattle.hs_lex.proofs.Escapes.{value_start, value_small, value_more, value_stops, value_end}
use Rattle.hs_lex.proofs.escape.value_at.Goals as goal

pub loop-c-init : goal.loop-c-init
loop-c-init c = value_start c.args.base _

pub with_digit-value-requires : goal.with_digit-value-requires
with_digit-value-requires c = value_small c.args.base _ _ _ c.loop-c.invariant

pub loop-c-preserved : goal.loop-c-preserved
loop-c-preserved c = value_more c.args.base _ _ _ _ c.in-Some.c _ _ c.digits_of-part.ensures c.loop-c.invariant c.in-Some.ensures.is (sym c.is_in.ensures ∙ c.if-not-is_in.false) c.with_digit-value.ensures

pub returns-then-not-is_in : goal.returns-then-not-is_in
returns-then-not-is_in c = value_stops c.args.base _ _ _ _ c.in-Some.c _ c.digits_of-part.ensures c.loop-c.invariant c.in-Some.ensures.is (sym c.is_in.ensures ∙ c.if-not-is_in.true)

pub returns : goal.returns
returns c = value_end c.args.base _ _ _ c.loop-c.invariant c.in_default.ensures.is
