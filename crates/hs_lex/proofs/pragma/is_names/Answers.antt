use Rattle.hs_lex.proofs.Parts.{same_start, same_more, same_none, same_end, smaller}
use Rattle.hs_lex.proofs.pragma.is_names.Goals as goal

pub loop-behind-init : goal.loop-behind-init
loop-behind-init c = same_start _

pub returns-in_default : goal.returns-in_default
returns-in_default c = same_none _ _ c.loop-behind.invariant c.in_default.ensures

pub loop-behind-preserved : goal.loop-behind-preserved
loop-behind-preserved c = same_more _ _ _ _ _ _ c.loop-behind.invariant c.in-Some.ensures c.run-end.ensures.runs c.in-Some-after.ensures c.run-rest.ensures.runs

pub loop-behind-smaller : goal.loop-behind-smaller
loop-behind-smaller c = smaller _ _ _ _ _ c.in-Some.ensures c.run-end.ensures.runs c.in-Some-after.ensures c.run-rest.ensures.runs

pub returns-in-None : goal.returns-in-None
returns-in-None c = same_end _ _ _ _ _ c.loop-behind.invariant c.in-Some.ensures c.run-end.ensures.runs c.in-None.ensures c.closes.ensures
