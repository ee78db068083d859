use Rattle.std.proofs.Common.{◌≡◌, length}
use Rattle.hs_layout.specs.Rules.{behind}
use Rattle.hs_layout.proofs.rules.drop_note.Given as goal

abbrev pub invariant-loop-other : goal.invariant-loop-other
invariant-loop-other l = behind l.note l.notes ≡ behind l.note l.fn.notes

abbrev pub decreases-loop-other : goal.decreases-loop-other
decreases-loop-other l = length l.notes
