use Rattle.std.proofs.Common.{◌≡◌, ◌≤◌, ◌+◌, ◌*◌, []}
use Rattle.hs_parts.specs.TypeReaders.{type_readers}
use Rattle.hs_parts.proofs.types.+types.Given as goal

abbrev pub decreases-ty : goal.decreases-ty
decreases-ty l = 2 * l.left

abbrev pub decreases-btype : goal.decreases-btype
decreases-btype l = 2 * l.left

abbrev pub decreases-atypes : goal.decreases-atypes
decreases-atypes l = 2 * l.left

abbrev pub decreases-atype : goal.decreases-atype
decreases-atype l = 2 * l.left

abbrev pub decreases-paren_type : goal.decreases-paren_type
decreases-paren_type l = 2 * l.left + 1

abbrev pub decreases-square_type : goal.decreases-square_type
decreases-square_type l = 2 * l.left + 1

abbrev pub decreases-types : goal.decreases-types
decreases-types l = 2 * l.left

abbrev pub invariant-atypes-loop-left : goal.invariant-atypes-loop-left
invariant-atypes-loop-left l = (l.left ≤ l.fn.left) × ((type_readers l.left).atypes l.parts.items l.rest ≡ (type_readers l.fn.left).atypes [] l.fn.tokens)

abbrev pub decreases-atypes-loop-left : goal.decreases-atypes-loop-left
decreases-atypes-loop-left l = l.left

abbrev pub invariant-types-loop-left : goal.invariant-types-loop-left
invariant-types-loop-left l = (l.left ≤ l.fn.left) × ((type_readers l.left).types l.parts.items l.rest ≡ (type_readers l.fn.left).types [] l.fn.tokens)

abbrev pub decreases-types-loop-left : goal.decreases-types-loop-left
decreases-types-loop-left l = l.left
