use Rattle.std.proofs.lemmas.Result.{err_from_is_err_and}
use Rattle.wire.specs.Reading.{times}
use Rattle.decl_codec.proofs.Loops.{goes_on, ends, is_done}
use Rattle.decl_codec.proofs.items.times_at.Goals as goal

pub returns-in_err-item : goal.returns-in_err-item
returns-in_err-item g c =
    let read = g.T.Wired.reads c.args.names.now c.args.count in
    let p = err_from_is_err_and c.from_residual.result c.from_residual.ensures.1 in
    rw (p.1, p.2) (ends read c.in_err-item.field-0.0 c.loop.items c.args.many c.loop.counter c.loop.rest.now (times read c.args.many c.args.bytes.now) c.loop-test.true c.in_err-item.ensures c.loop.invariant)

pub loop-preserved : goal.loop-preserved
loop-preserved g c =
    let read = g.T.Wired.reads c.args.names.now c.args.count in
    rw c.in_ok-push.ensures.ok (goes_on read c.loop.items c.args.many c.loop.counter c.loop.rest.now c.in_ok-item.item c.in_ok-item.after.now (times read c.args.many c.args.bytes.now) c.loop-test.true c.in_ok-item.ensures c.loop.invariant)

pub returns : goal.returns
returns g c =
    let read = g.T.Wired.reads c.args.names.now c.args.count in
    is_done read c.loop.items c.args.many c.loop.counter c.loop.rest.now (times read c.args.many c.args.bytes.now) c.loop-test.false c.loop.invariant
