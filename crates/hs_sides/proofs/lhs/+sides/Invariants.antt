use Rattle.std.proofs.Common.{◌+◌, ◌*◌}
use Rattle.hs_sides.proofs.lhs.+sides.Given as goal

abbrev pub decreases-applied_side : goal.decreases-applied_side
decreases-applied_side l = 3 * l.left + 1

abbrev pub decreases-other_side : goal.decreases-other_side
decreases-other_side l = 3 * l.left + 2

abbrev pub decreases-function_side : goal.decreases-function_side
decreases-function_side l = 3 * l.left
