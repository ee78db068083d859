use Rattle.hsmake_top.proofs.run.go_on.Goals as goal

pub returns-in-Some-clause-ends : goal.returns-in-Some-clause-ends
returns-in-Some-clause-ends g c = λ left taken checks h. c.in-Some.ensures.ends left taken checks (c.loop-status.invariant.done left taken checks h)
