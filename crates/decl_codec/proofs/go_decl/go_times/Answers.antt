use Rattle.std.proofs.lemmas.Result.{err_from_is_err_and}
use Rattle.decl_codec.specs.Going.{go_times}
use Rattle.decl_codec.proofs.Ways.{goes_on, stops, is_done}
use Rattle.decl_codec.proofs.go_decl.go_times.Goals as goal

pub returns-in_err-rest : goal.returns-in_err-rest
returns-in_err-rest g c =
    let go = g.P.Part.goes c.args.names c.args.count in
    let p = err_from_is_err_and c.from_residual.result c.from_residual.ensures.1 in
    rw (p.1, p.2) (stops go c.args.many c.loop.counter c.loop.seen c.loop.rest.now (go_times go c.args.many c.args.seen.now c.args.bytes.now) c.in_err-rest.field-0.0 c.loop-test.true c.in_err-rest.ensures c.loop.invariant)

pub loop-preserved : goal.loop-preserved
loop-preserved g c =
    let go = g.P.Part.goes c.args.names c.args.count in
    goes_on go c.args.many c.loop.counter c.loop.seen c.loop.rest.now (go_times go c.args.many c.args.seen.now c.args.bytes.now) c.go.new.seen c.in_ok-rest.rest.now c.loop-test.true c.in_ok-rest.ensures c.loop.invariant

pub returns : goal.returns
returns g c =
    let go = g.P.Part.goes c.args.names c.args.count in
    is_done go c.args.many c.loop.counter c.loop.seen c.loop.rest.now (go_times go c.args.many c.args.seen.now c.args.bytes.now) c.loop-test.false c.loop.invariant
