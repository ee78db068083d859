use Rattle.std.proofs.Common.{◌≡◌, length}
use Rattle.term_classes.specs.Undo.{rewound, HoldsPlaces}
use Rattle.term_classes.proofs.write.undo.Given as goal

abbrev pub invariant-loop-at : goal.invariant-loop-at
invariant-loop-at l = record {
  places : HoldsPlaces (length l.slots) l.saved.items;
  same : rewound l.saved.items l.slots ≡ rewound l.initial.saved.items l.initial.slots;
}

abbrev pub decreases-loop-at : goal.decreases-loop-at
decreases-loop-at l = length l.saved.items
