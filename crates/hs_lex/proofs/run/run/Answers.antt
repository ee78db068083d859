use Rattle.std.proofs.Common.{arith, sym, ◌∙◌}
use Rattle.hs_lex.proofs.Runs.{more, at_end}
use Rattle.hs_lex.proofs.run.run.Goals as goal

pub loop-c-preserved : goal.loop-c-preserved
loop-c-preserved c = record {
  run = more c.args.part _ _ _ c.in-Some.c c.loop-c.invariant.run c.in-Some.ensures.is (sym c.is_in.ensures ∙ c.if-not-is_in.false);
  less = omega (arith, c.in-Some.ensures.less);
}

pub returns-clause-runs : goal.returns-clause-runs
returns-clause-runs c = at_end c.args.part _ _ c.loop-c.invariant.run c.in_default.ensures.is
