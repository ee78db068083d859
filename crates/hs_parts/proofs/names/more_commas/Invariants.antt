use Rattle.std.proofs.Common.{◌≡◌, ◌≤◌, ◌+◌, length}
use Rattle.hs_parts.specs.NameReaders as spec
use Rattle.hs_parts.proofs.names.more_commas.Given as goal

abbrev pub invariant-loop-behind : goal.invariant-loop-behind
invariant-loop-behind l = (spec.commas_from l.rest l.count ≡ spec.commas_from l.fn.tokens 1) × (l.count + length l.rest ≤ 1 + length l.fn.tokens)

abbrev pub decreases-loop-behind : goal.decreases-loop-behind
decreases-loop-behind l = length l.rest
