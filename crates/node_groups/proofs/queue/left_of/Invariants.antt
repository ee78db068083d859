use Rattle.std.proofs.Common.{◌<◌, ◌≤◌, ℕ, true, get_or}
use Rattle.node_groups.specs.Queue.{Is}
use Rattle.node_groups.proofs.queue.left_of.Given as goal

abbrev pub invariant-loop-left : goal.invariant-loop-left
invariant-loop-left l = record {
  within : l.left ≤ l.end;
  listed : (i : ℕ) → l.left ≤ i → i < l.end → Is l.listed (get_or l.targets i 0) true;
}

abbrev pub decreases-loop-left : goal.decreases-loop-left
decreases-loop-left l = l.left
