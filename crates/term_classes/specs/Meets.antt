-- What two shapes have in common.
use Rattle.std.specs.Prelude.{ℕ, ◌≡◌, ◌⊎◌, ◌↔◌, ◌<◌, ◌≤◌, ◌+◌, ◌*◌, List, length}
use Rattle.unifiers.specs.Term.{Term}
use Rattle.term_classes.specs.declared.node.Slot.{Slot}
use Rattle.term_classes.specs.declared.node.Saved.{Saved}
use Rattle.term_classes.specs.declared.node.Pair.{Pair}
use Rattle.term_classes.specs.declared.node.Node.{Node}
use Rattle.term_classes.specs.declared.solve.Meeting.{Meeting}
use Rattle.term_classes.specs.declared.solve.Meeting.TheVariants.{Clash, Same, Parts}
use Rattle.term_classes.specs.Ceilings.{CappedBut, Lowered}
use Rattle.term_classes.specs.Fits.{FitsNode, node_at, Fits, AreEqual, ArePairsOf, Sound, OrderedBut, roots}

abbrev pub PairWithin : ℕ → Pair → Type 0
PairWithin n p = (p.left < n) × (p.right < n)

-- a term of both shapes is one of the given shape, where the parts are equal
abbrev pub Meets : List Node → ℕ → ℕ → Meeting → Type 0
Meets nodes a b Clash = (q : ℕ → Term) (t : Term) → FitsNode (node_at nodes a) q t → FitsNode (node_at nodes b) q t → ⊥
Meets nodes a b (Same s) = ((s ≡ a) ⊎ (s ≡ b)) × ((q : ℕ → Term) (t : Term) → (FitsNode (node_at nodes a) q t × FitsNode (node_at nodes b) q t) ↔ FitsNode (node_at nodes s) q t)
Meets nodes a b (Parts one two) = (PairWithin (length nodes) one × PairWithin (length nodes) two) × ((q : ℕ → Term) (t : Term) → (FitsNode (node_at nodes a) q t × FitsNode (node_at nodes b) q t) ↔ (FitsNode (node_at nodes a) q t × (q one.left ≡ q one.right) × (q two.left ≡ q two.right)))

-- two classes were made one
pub record United (nodes : List Node) (old new : List Slot) (ceilings lower : List ℕ) (before after : List Saved) (todo later : List Pair) (x y : ℕ) : Type 0 where
  pub sound : Sound nodes new
  pub within : ArePairsOf (length nodes) todo → ArePairsOf (length nodes) later
  pub fits : (q : ℕ → Term) → (Fits nodes new q × AreEqual later q) ↔ (Fits nodes old q × AreEqual todo q × (q x ≡ q y))
  pub order : OrderedBut nodes old before → CappedBut nodes old ceilings before → OrderedBut nodes new after
  pub capped : CappedBut nodes old ceilings before → CappedBut nodes new lower after
  pub lowered : Lowered ceilings lower
  pub fewer : 2 * roots new (length new) + length later ≤ 2 * roots old (length old) + length todo
