use Rattle.std.proofs.Common.{◌≡◌, ◌≤◌, []}
use Rattle.hs_parts.specs.TypeReaders.{classes_at}
use Rattle.hs_parts.proofs.contexts.classes.Given as goal

abbrev pub invariant-loop-left : goal.invariant-loop-left
invariant-loop-left l = classes_at l.left l.parts.items l.rest ≡ classes_at l.fn.left [] l.fn.tokens

abbrev pub decreases-loop-left : goal.decreases-loop-left
decreases-loop-left l = l.left
