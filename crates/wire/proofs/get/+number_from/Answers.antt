use Rattle.wire.proofs.Steps.{one_out, one_joined}
use Rattle.wire.proofs.get.+number_from.Goals as goal

pub returns-clause-value : goal.returns-clause-value
returns-clause-value t c =
    one_joined (λ x. (x.0, x.1.now)) c.join.result c.args.more c.in_ok-first.first c.in_ok-high.high c.args.bytes.now c.in_ok-first.rest.now c.in_ok-high.rest.now
    c.in_ok-first.ensures.value c.if-first-lt128.false c.if-more-eq0.false c.in_ok-high.ensures.value c.join.ensures.value

pub returns-in_err-high-clause-value : goal.returns-in_err-high-clause-value
returns-in_err-high-clause-value t c =
    rw c.from_residual-in_err-high.ensures
    (one_out c.args.more c.in_ok-first.first c.args.bytes.now c.in_ok-first.rest.now c.in_ok-first.ensures.value c.if-first-lt128.false c.if-more-eq0.false c.in_err-high.ensures.value)
