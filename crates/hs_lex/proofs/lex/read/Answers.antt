use Rattle.std.proofs.Common.{◌≡◌, ◌∙◌, sym, arith}
use Rattle.hs_lex.proofs.Reached.{reached_within}
use Rattle.hs_lex.proofs.Whole.{parts, past_none, past_more, past_all, past_bad, found, next_reached, taken_within, taken_far}
use Rattle.hs_lex.proofs.lex.read.Goals as goal

pub loop-turn-init : goal.loop-turn-init
loop-turn-init c = record { past = past_none _ _; within = reached_within _ _ c.requires.reached }

pub token_at-requires-clause-within : goal.token_at-requires-clause-within
token_at-requires-clause-within c = (taken_within c.args.source.now _ _ c.in-Some.ensures c.loop-turn.invariant.within).0

pub returns-in-Ok-clause-found : goal.returns-in-Ok-clause-found
returns-in-Ok-clause-found c = λ t d e.
    let p = parts c.in-Ok.token t c.in-Some.turn.to d e in
    found c.args.source.now _ _ d c.in-Some.turn c.in-Some-kind.kind t c.loop-turn.invariant.past c.in-Some.ensures c.in-Some-kind.is (sym p.0 ∙ c.in-Ok.ensures) p.1

pub returns-in-Ok-clause-reached : goal.returns-in-Ok-clause-reached
returns-in-Ok-clause-reached c = λ t d e.
    let p = parts c.in-Ok.token t c.in-Some.turn.to d e in
    next_reached _ c.args.cursor _ t c.requires.reached (found c.args.source.now _ _ d c.in-Some.turn c.in-Some-kind.kind t c.loop-turn.invariant.past c.in-Some.ensures c.in-Some-kind.is (sym p.0 ∙ c.in-Ok.ensures) p.1)

pub loop-turn-smaller : goal.loop-turn-smaller
loop-turn-smaller c = omega (arith, taken_far c.args.source.now _ _ c.in-Some.ensures, (taken_within c.args.source.now _ _ c.in-Some.ensures c.loop-turn.invariant.within).0)

pub loop-turn-preserved : goal.loop-turn-preserved
loop-turn-preserved c = record {
  past = past_more _ _ _ _ c.loop-turn.invariant.past c.in-Some.ensures c.in_default-kind.is;
  within = taken_within _ _ _ c.in-Some.ensures c.loop-turn.invariant.within;
}

pub returns-then-here-source-clause-none : goal.returns-then-here-source-clause-none
returns-then-here-source-clause-none c = λ e. past_all _ _ _ c.loop-turn.invariant.past c.if-here-source.true

pub returns-clause-bad : goal.returns-clause-bad
returns-clause-bad c = λ at e.
    let q : at ≡ c.position.result = cc in
    past_bad _ _ _ at c.loop-turn.invariant.past c.in_default.ensures c.if-here-source.false c.loop-turn.invariant.within (q ∙ c.position.ensures)
