use Rattle.std.proofs.Common.{length}
use Rattle.hs_layout.proofs.Closing.{Left}
use Rattle.hs_layout.proofs.rules.down_to.Given as goal

abbrev pub invariant-loop-target : goal.invariant-loop-target
invariant-loop-target l = Left l.target l.fn.frames l.frames l.fn.signs.items l.signs.items

abbrev pub decreases-loop-target : goal.decreases-loop-target
decreases-loop-target l = length l.frames
