use Rattle.std.proofs.Common.{◌≡◌, length}
use Rattle.hs_layout.specs.Rules.{onto, renew}
use Rattle.hs_layout.proofs.rules.renew.Given as goal

abbrev pub invariant-loop-frame : goal.invariant-loop-frame
invariant-loop-frame l = onto l.held (renew l.keep l.frames) ≡ renew l.fn.keep l.fn.frames

abbrev pub decreases-loop-frame : goal.decreases-loop-frame
decreases-loop-frame l = length l.frames
