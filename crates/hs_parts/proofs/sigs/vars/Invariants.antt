use Rattle.std.proofs.Common.{◌≡◌, []}
use Rattle.hs_parts.specs.SigReaders.{vars_at}
use Rattle.hs_parts.proofs.sigs.vars.Given as goal

abbrev pub invariant-loop-left : goal.invariant-loop-left
invariant-loop-left l = vars_at l.left l.names.items l.rest ≡ vars_at l.fn.left [] l.fn.tokens

abbrev pub decreases-loop-left : goal.decreases-loop-left
decreases-loop-left l = l.left
