use Rattle.std.proofs.Common.{ℕ, ◌<◌, ◌≤◌, get_or}
use Rattle.term_classes.specs.Slots.{rank_of}
use Rattle.term_classes.proofs.settle.lowest.Given as goal

abbrev pub invariant-loop-at : goal.invariant-loop-at
invariant-loop-at l = (k : ℕ) → k < l.at-index → l.low ≤ rank_of l.slots (get_or l.starts k 0)
