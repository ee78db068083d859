use Rattle.std.proofs.Common.{arith, sym, ◌∙◌}
use Rattle.source_text.proofs.Advance.{on, nothing}
use Rattle.source_text.proofs.place.advance.Goals as goal

pub loop-c-preserved : goal.loop-c-preserved
loop-c-preserved c = record {
  same = on _ _ _ c.in-Some.c _ c.in-Some.ensures.is c.step-at.ensures.is ∙ c.loop-c.invariant.same;
  line = omega (arith, c.in-Some.ensures.less, c.step-at.ensures.line);
  column = omega (arith, c.in-Some.ensures.less, c.step-at.ensures.column);
}

pub returns-clause-is : goal.returns-clause-is
returns-clause-is c = sym (nothing _ _ c.in_default.ensures.is) ∙ c.loop-c.invariant.same
