use Rattle.std.proofs.Common.{ℕ, ◌+◌, ◌≤◌, ◌<◌, ◌≡◌, [], get_or}
use Rattle.term_classes.specs.Undo.{Kept}
use Rattle.term_classes.specs.Settle.{Turned, mark_of}
use Rattle.term_classes.proofs.settle.walk_all.Given as goal

abbrev pub invariant-loop-start : goal.invariant-loop-start
invariant-loop-start l = record {
  kept : Kept l.fn.slots l.slots l.fn.saved.items l.saved.items;
  turned : Turned l.nodes l.fn.slots l.slots l.fn.marks l.marks l.starts l.clock l.low l.next l.path.items;
  none : l.path.items ≡ [];
  base : l.base ≤ l.next;
  done : (k : ℕ) → k < l.start-index → l.clock < mark_of l.marks (get_or l.starts k 0);
  bounded : ((i : ℕ) → mark_of l.fn.marks i ≤ l.clock + 1) → (i : ℕ) → mark_of l.marks i ≤ l.clock + 1;
}
