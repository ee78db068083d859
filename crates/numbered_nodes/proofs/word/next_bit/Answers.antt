use Rattle.std.proofs.Common.{arith}
use Rattle.numbered_nodes.proofs.Outside.{none_from, there, within, before}
use Rattle.numbered_nodes.proofs.word.next_bit.Goals as goal

pub returns-then-rest-eq0-clause-none : goal.returns-then-rest-eq0-clause-none
returns-then-rest-eq0-clause-none c = λ j le lt. none_from c.args.word c.args.low j c.if-rest-eq0.true le

pub returns-clause-some : goal.returns-clause-some
returns-clause-some c =
    let fits = c.ranges.word.fits in
    (omega arith, within c.args.word c.args.low fits c.if-rest-eq0.false, there c.args.word c.args.low fits c.if-rest-eq0.false)

pub returns-clause-least : goal.returns-clause-least
returns-clause-least c = before c.args.word c.args.low c.ranges.word.fits c.if-rest-eq0.false
