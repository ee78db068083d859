use Rattle.std.proofs.Common.{◌≡◌, [], ◌∷◌}
use Rattle.hs_header.specs.Readers.{more_subs}
use Rattle.hs_header.proofs.subs.more_subs.Given as goal

abbrev pub invariant-loop-left : goal.invariant-loop-left
invariant-loop-left l = more_subs l.left l.parts l.rest ≡ more_subs l.fn.left (l.fn.first ∷ []) l.fn.tokens

abbrev pub decreases-loop-left : goal.decreases-loop-left
decreases-loop-left l = l.left
