use Rattle.std.proofs.Common.{◌≡◌, []}
use Rattle.hs_parts.specs.SigReaders.{ops_at}
use Rattle.hs_parts.proofs.sigs.ops.Given as goal

abbrev pub invariant-loop-left : goal.invariant-loop-left
invariant-loop-left l = ops_at l.left l.ops.items l.rest ≡ ops_at l.fn.left [] l.fn.tokens

abbrev pub decreases-loop-left : goal.decreases-loop-left
decreases-loop-left l = l.left
