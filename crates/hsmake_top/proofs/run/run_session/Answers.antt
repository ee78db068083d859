use Rattle.mk_base.specs.declared.status.Status.TheVariants as status
use Rattle.hsmake_top.proofs.Ends.{stopped}
use Rattle.hsmake_top.proofs.Stops.{nothing_consumed}
use Rattle.hsmake_top.proofs.Turns.{nothing_begun}
use Rattle.hsmake_top.proofs.run.run_session.Goals as goal

pub returns-clause-ends : goal.returns-clause-ends
returns-clause-ends g c =
    let left = g.S.Source.left c.args.input.now in
    let taken = g.K.Sink.taken c.args.output.now in
    c.go_on.ensures.ends left taken c.args.steps.now (c.in-Ok.ensures.done left taken c.args.steps.now)

pub returns-in_default-clause-ends : goal.returns-in_default-clause-ends
returns-in_default-clause-ends g c =
    let left = g.S.Source.left c.args.input.now in
    let taken = g.K.Sink.taken c.args.output.now in
    stopped left left taken taken c.args.steps.now c.args.steps.now status.NoMemory (nothing_consumed left) (λ e. cc) (λ e. cc) (λ e. cc) (nothing_begun left taken) (λ e. cc) (λ e. cc)
