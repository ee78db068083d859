use Rattle.std.proofs.Common.{arith}
use Rattle.hs_lex.proofs.Reached.{reached_within}
use Rattle.hs_lex.proofs.Whole.{toward_start, toward_more, reached_start, reached_more, arrived, blocked, taken_within, taken_far}
use Rattle.hs_lex.proofs.lex.cursor_at.Goals as goal

pub loop-cursor-init : goal.loop-cursor-init
loop-cursor-init c = record { reached = reached_start _ _ c.start-cursor.ensures.is; toward = λ d h. toward_start _ _ d _ c.start-cursor.ensures.is h }

pub turn_at-requires-clause-within : goal.turn_at-requires-clause-within
turn_at-requires-clause-within c = reached_within _ _ c.loop-cursor.invariant.reached

pub loop-cursor-smaller : goal.loop-cursor-smaller
loop-cursor-smaller c = omega (arith, taken_far c.args.source.now _ _ c.in-Some.ensures, (taken_within c.args.source.now _ _ c.in-Some.ensures (reached_within _ _ c.loop-cursor.invariant.reached)).0)

pub loop-cursor-preserved : goal.loop-cursor-preserved
loop-cursor-preserved c = record {
  reached = reached_more _ _ _ c.loop-cursor.invariant.reached c.in-Some.ensures;
  toward = λ d h. toward_more _ c.args.at _ d _ c.loop-cursor-test.true c.in-Some.ensures h (c.loop-cursor.invariant.toward d h);
}

pub returns-in-None : goal.returns-in-None
returns-in-None c = λ d h. blocked _ _ d c.in-None.ensures (c.loop-cursor.invariant.toward d h)

pub returns : goal.returns
returns c = λ d h. arrived _ c.args.at _ d c.loop-cursor-test.false c.loop-cursor.invariant.reached h (c.loop-cursor.invariant.toward d h)
