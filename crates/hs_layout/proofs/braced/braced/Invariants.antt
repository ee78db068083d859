use Rattle.std.proofs.Common.{◌≡◌, ◌++◌, drop}
use Rattle.hs_layout.specs.Braced.{braced_from, braced}
use Rattle.hs_layout.proofs.braced.braced.Given as goal

abbrev pub invariant-loop-token : goal.invariant-loop-token
invariant-loop-token l = l.out ++ braced_from l.state (drop l.token-index l.tokens) ≡ braced l.fn.tokens
