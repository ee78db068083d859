use Rattle.std.proofs.Common.{ℕ, ◌+◌, ◌*◌, ◌↔◌, ◌≡◌, length}
use Rattle.unifiers.specs.Term.{Term}
use Rattle.term_classes.specs.Undo.{Kept}
use Rattle.term_classes.specs.Ceilings.{CappedBut, Lowered}
use Rattle.term_classes.specs.Fits.{Fits, AreEqual, ArePairsOf, Sound, OrderedBut, roots}
use Rattle.term_classes.proofs.solve.solve.Given as goal

abbrev pub invariant-loop-left : goal.invariant-loop-left
invariant-loop-left l = record {
  kept : Kept l.initial.slots l.slots l.initial.saved.items l.saved.items;
  sound : Sound l.nodes l.slots;
  pairs : ArePairsOf (length l.nodes) l.todo.items;
  order : OrderedBut l.nodes l.slots l.saved.items;
  capped : CappedBut l.nodes l.slots l.ceilings l.saved.items;
  lowered : Lowered l.initial.ceilings l.ceilings;
  len : length l.ceilings ≡ length l.slots;
  fits : (q : ℕ → Term) → (Fits l.nodes l.slots q × AreEqual l.todo.items q) ↔ (Fits l.nodes l.initial.slots q × AreEqual l.initial.todo.items q);
}

abbrev pub decreases-loop-left : goal.decreases-loop-left
decreases-loop-left l = 2 * roots l.slots (length l.slots) + length l.todo.items
