-- Ranks of some classes lowered, and what stays.
use Rattle.std.specs.Prelude.{ℕ, ◌≡◌, ◌↔◌, List}
use Rattle.unifiers.specs.Term.{Term}
use Rattle.term_classes.specs.declared.node.Slot.{Slot}
use Rattle.term_classes.specs.declared.node.Saved.{Saved}
use Rattle.term_classes.specs.declared.node.Node.{Node}
use Rattle.term_classes.specs.Slots.{shape_of}
use Rattle.term_classes.specs.Undo.{Kept}
use Rattle.term_classes.specs.Fits.{Fits, Sound, OrderedBut}
use Rattle.term_classes.specs.Ceilings.{CappedBut, SameClasses, AreJoined}

-- only ranks differ, and classes that get another one are saved
pub record Pressed (nodes : List Node) (old new : List Slot) (before after : List Saved) : Type 0 where
  pub sound : Sound nodes new
  pub fits : (q : ℕ → Term) → Fits nodes new q ↔ Fits nodes old q
  pub order : OrderedBut nodes old before → OrderedBut nodes new after
  pub capped : (ceilings : List ℕ) → CappedBut nodes old ceilings before → CappedBut nodes new ceilings after
  pub same : SameClasses old new
  pub shape : (i : ℕ) → shape_of new i ≡ shape_of old i

-- two classes were made one, where need be after some ranks were lowered
abbrev pub RoomJoined : List Node → List Slot → List Slot → List ℕ → List Saved → List Saved → ℕ → ℕ → ℕ → Type 0
RoomJoined nodes old new ceilings before after x y shape =
    (mid : List Slot) × ((between : List Saved) × (Pressed nodes old mid before between × (Kept mid new between after × AreJoined mid new ceilings x y shape after)))
