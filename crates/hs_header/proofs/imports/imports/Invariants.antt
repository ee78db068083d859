use Rattle.std.proofs.Common.{◌≡◌, []}
use Rattle.hs_header.specs.Readers.{imports_at}
use Rattle.hs_header.proofs.imports.imports.Given as goal

abbrev pub invariant-loop-left : goal.invariant-loop-left
invariant-loop-left l = imports_at l.fn.put l.left l.items l.rest ≡ imports_at l.fn.put l.fn.left [] l.fn.tokens

abbrev pub decreases-loop-left : goal.decreases-loop-left
decreases-loop-left l = l.left
