use Rattle.std.proofs.Common.{◌+◌, ◌*◌}
use Rattle.prim_table.proofs.spelled.+reading.Given as goal

abbrev pub decreases-read : goal.decreases-read
decreases-read l = 2 * l.left

abbrev pub decreases-read_as : goal.decreases-read_as
decreases-read_as l = 2 * l.left + 1
