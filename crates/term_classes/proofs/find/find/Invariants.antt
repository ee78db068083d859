use Rattle.std.proofs.Common.{◌≡◌, ◌<◌, ◌-◌, length}
use Rattle.term_classes.specs.Slots.{root, height_of}
use Rattle.term_classes.proofs.find.find.Given as goal

abbrev pub invariant-loop-at : goal.invariant-loop-at
invariant-loop-at l = record {
  within : l.at < length l.slots;
  same : root l.slots l.at ≡ root l.slots l.from;
}

abbrev pub decreases-loop-at : goal.decreases-loop-at
decreases-loop-at l = 256 - height_of l.slots l.at
