use Rattle.std.proofs.Common.{ℕ, ◌+◌, ◌≤◌}
use Rattle.term_classes.specs.Undo.{Kept}
use Rattle.term_classes.specs.Settle.{Turned, mark_of, left}
use Rattle.term_classes.proofs.settle.walk.Given as goal

abbrev pub invariant-loop-slots : goal.invariant-loop-slots
invariant-loop-slots l = record {
  kept : Kept l.fn.slots l.slots l.fn.saved.items l.saved.items;
  turned : Turned l.nodes l.fn.slots l.slots l.fn.marks l.marks l.starts l.clock l.low l.next l.path.items;
  base : l.base ≤ l.next;
  start : l.clock ≤ mark_of l.marks l.start;
  bounded : ((i : ℕ) → mark_of l.fn.marks i ≤ l.clock + 1) → (i : ℕ) → mark_of l.marks i ≤ l.clock + 1;
}

abbrev pub decreases-loop-slots : goal.decreases-loop-slots
decreases-loop-slots l = left l.clock l.marks
