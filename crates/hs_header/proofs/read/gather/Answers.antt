use Rattle.std.proofs.Common.{Some, None}
use Rattle.hs_header.proofs.Gathered.{goes_over, ends_if, turned}
use Rattle.hs_header.proofs.read.gather.Goals as goal

pub returns-in-Some : goal.returns-in-Some
returns-in-Some c =
    ends_if c.args.source.now c.args.front c.loop-known.known c.turn.new.known c.in-Some.ending c.ended.result c.ended.ensures c.loop-known.invariant
    (turned c.args.source.now c.loop-known.known c.turn.new.known c.in_ok-ending.field-0 (Some c.in-Some.ending) c.in-Some.is c.in_ok-ending.ensures)

pub loop-known-preserved : goal.loop-known-preserved
loop-known-preserved c =
    goes_over c.args.source.now c.args.front c.loop-known.known c.turn.new.known c.loop-known.invariant
    (turned c.args.source.now c.loop-known.known c.turn.new.known c.in_ok-ending.field-0 None c.in_default.is c.in_ok-ending.ensures)
