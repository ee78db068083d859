use Rattle.decl_codec.specs.Going.{go_kind_times}
use Rattle.decl_codec.proofs.Ways.{kinds_go_on, kinds_stop, kinds_are_done}
use Rattle.decl_codec.proofs.going.go_kind_times.Goals as goal

pub returns-in_err-rest : goal.returns-in_err-rest
returns-in_err-rest c =
    rw c.from_residual.ensures (kinds_stop c.args.many c.loop.counter c.loop.rest.now (go_kind_times c.args.many c.args.bytes.now) c.loop-test.true c.in_err-rest.ensures c.loop.invariant)

pub loop-preserved : goal.loop-preserved
loop-preserved c =
    kinds_go_on c.args.many c.loop.counter c.loop.rest.now (go_kind_times c.args.many c.args.bytes.now) c.in_ok-rest.rest.now c.loop-test.true c.in_ok-rest.ensures c.loop.invariant

pub returns : goal.returns
returns c = kinds_are_done c.args.many c.loop.counter c.loop.rest.now (go_kind_times c.args.many c.args.bytes.now) c.loop-test.false c.loop.invariant
