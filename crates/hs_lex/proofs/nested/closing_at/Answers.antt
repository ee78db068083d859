use Rattle.std.proofs.Common.{arith}
use Rattle.hs_lex.proofs.Insides.{opening, closing, other, stuck, ends}
use Rattle.hs_lex.proofs.nested.closing_at.Goals as goal

pub loop-after-preserved-in-Opens : goal.loop-after-preserved-in-Opens
loop-after-preserved-in-Opens c = record {
  inside = opening _ _ _ _ c.in-Opens.ensures.tells c.loop-after.invariant.inside;
  fits = omega (arith, c.in-Opens.ensures.less);
  some = omega arith;
}

pub returns-then-depth-eq1 : goal.returns-then-depth-eq1
returns-then-depth-eq1 c = ends _ _ _ _ c.if-depth-eq1.true c.in-Closes.ensures.tells c.loop-after.invariant.inside

pub loop-after-preserved-in-Closes : goal.loop-after-preserved-in-Closes
loop-after-preserved-in-Closes c = record {
  inside = closing _ _ _ _ c.if-depth-eq1.false c.in-Closes.ensures.tells c.loop-after.invariant.inside;
  fits = omega (arith, c.in-Closes.ensures.less);
  some = omega (arith, c.if-depth-eq1.false);
}

pub loop-after-preserved : goal.loop-after-preserved
loop-after-preserved c =
    let h = c.in-Other.ensures.tells in
    record {
      inside = other _ _ _ h.2 h.0 h.1 _ h.3 h.4 h.5 c.loop-after.invariant.inside;
      fits = omega (arith, c.in-Other.ensures.less);
      some = omega arith;
    }

pub returns-in-Nothing : goal.returns-in-Nothing
returns-in-Nothing c = stuck _ _ _ c.in-Nothing.ensures.tells c.loop-after.invariant.inside
