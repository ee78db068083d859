use Rattle.std.proofs.Common.{◌≡◌, drop}
use Rattle.plain_form.specs.Form as spec
use Rattle.plain_form.proofs.form.read_form.Given as goal

abbrev pub invariant-loop-token : goal.invariant-loop-token
invariant-loop-token l = spec.read_form l.fn.tokens ≡ spec.read_from l.state l.last (spec.without_pragmas (drop l.token-index l.tokens))
