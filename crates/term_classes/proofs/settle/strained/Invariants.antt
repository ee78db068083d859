use Rattle.std.proofs.Common.{ℕ, ◌<◌, ◌≡◌, ◌⊎◌, get_or}
use Rattle.term_classes.specs.declared.node.Saved.{Saved}
use Rattle.term_classes.specs.Slots.{link_of}
use Rattle.term_classes.specs.Fits.{IsOrdered}
use Rattle.term_classes.specs.Settle.{AreRoots, IsOn}
use Rattle.term_classes.proofs.settle.strained.Given as goal

abbrev pub invariant-loop-one : goal.invariant-loop-one
invariant-loop-one l = record {
  roots : AreRoots l.slots l.found.items;
  all : (k i : ℕ) → k < l.one-index → ((d : Saved) → (get_or l.saved k d).at ≡ i) → link_of l.slots i ≡ i → IsOrdered l.nodes l.slots i ⊎ IsOn l.found.items i;
}
