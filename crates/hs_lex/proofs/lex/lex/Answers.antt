use Rattle.std.proofs.Common.{◌≡◌, ◌∙◌, arith}
use Rattle.hs_lex.proofs.Whole.{nothing_read, at_start, taken_within, taken_far, more, all, bad}
use Rattle.hs_lex.proofs.lex.lex.Goals as goal

pub loop-turn-init : goal.loop-turn-init
loop-turn-init c = record { read = nothing_read _ _ _ c.new-tokens.ensures c.start-cursor.ensures.is; within = at_start _ _ c.start-cursor.ensures.is }

pub push_turn-requires-clause-within : goal.push_turn-requires-clause-within
push_turn-requires-clause-within c = (taken_within c.args.source.now _ _ c.in-Some.ensures c.loop-turn.invariant.within).0

pub loop-turn-smaller : goal.loop-turn-smaller
loop-turn-smaller c = omega (arith, taken_far c.args.source.now _ _ c.in-Some.ensures, (taken_within c.args.source.now _ _ c.in-Some.ensures c.loop-turn.invariant.within).0)

pub loop-turn-preserved : goal.loop-turn-preserved
loop-turn-preserved c = record {
  read = more _ _ _ _ _ c.loop-turn.invariant.read c.in-Some.ensures c.in-Ok.ensures;
  within = taken_within _ _ _ c.in-Some.ensures c.loop-turn.invariant.within;
}

pub returns-then-cursor-source-clause-ok : goal.returns-then-cursor-source-clause-ok
returns-then-cursor-source-clause-ok c = all _ _ _ c.loop-turn.invariant.read c.if-cursor-source.true

pub returns-clause-bad : goal.returns-clause-bad
returns-clause-bad c = λ at e.
    let q : at ≡ c.position.result = cc in
    bad _ _ _ at c.loop-turn.invariant.read c.in_default.ensures c.if-cursor-source.false c.loop-turn.invariant.within (q ∙ c.position.ensures)
