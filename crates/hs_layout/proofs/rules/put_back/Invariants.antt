use Rattle.std.proofs.Common.{◌≡◌, length}
use Rattle.hs_layout.specs.Rules.{onto}
use Rattle.hs_layout.proofs.rules.put_back.Given as goal

abbrev pub invariant-loop-frame : goal.invariant-loop-frame
invariant-loop-frame l = onto l.held l.frames ≡ onto l.fn.held l.fn.frames

abbrev pub decreases-loop-frame : goal.decreases-loop-frame
decreases-loop-frame l = length l.held
