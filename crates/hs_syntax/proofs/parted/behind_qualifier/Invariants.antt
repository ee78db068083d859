use Rattle.std.proofs.Common.{◌≤◌, length}
use Rattle.hs_syntax.proofs.Names.{Passed}
use Rattle.hs_syntax.proofs.parted.behind_qualifier.Given as goal

abbrev pub invariant-loop-piece : goal.invariant-loop-piece
invariant-loop-piece l = record { passed : Passed l.text l.rest; less : length l.rest ≤ length l.text }

abbrev pub decreases-loop-piece : goal.decreases-loop-piece
decreases-loop-piece l = length l.rest
