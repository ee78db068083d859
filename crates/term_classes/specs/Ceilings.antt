-- Ceilings of classes: what has a part in a class stands no lower.
use Rattle.std.specs.Prelude.{ℕ, ◌<◌, ◌≤◌, ◌≡◌, ◌⊎◌, List, get_or, length}
use Rattle.term_classes.specs.declared.node.Slot.{Slot}
use Rattle.term_classes.specs.declared.node.Saved.{Saved}
use Rattle.term_classes.specs.declared.node.Node.{Node}
use Rattle.term_classes.specs.declared.node.Node.TheVariants.{Free, Rigid, Con, App}
use Rattle.term_classes.specs.Slots.{link_of, shape_of, rank_of, height_of, root}
use Rattle.term_classes.specs.Undo.{IsPlace}
use Rattle.term_classes.specs.Fits.{node_at}
use Rattle.term_classes.specs.Join.{JoinedAt}

abbrev pub ceiling_of : List ℕ → ℕ → ℕ
ceiling_of ceilings i = get_or ceilings i 0

-- the ceilings of the parts are no higher than r
abbrev pub PartsCapped : Node → List Slot → List ℕ → ℕ → Type 0
PartsCapped (Free w) slots ceilings r = Unit {0}
PartsCapped (Rigid w) slots ceilings r = Unit {0}
PartsCapped (Con c) slots ceilings r = Unit {0}
PartsCapped (App f a) slots ceilings r = (ceiling_of ceilings (root slots f) ≤ r) × (ceiling_of ceilings (root slots a) ≤ r)

abbrev pub IsCapped : List Node → List Slot → List ℕ → ℕ → Type 0
IsCapped nodes slots ceilings i = PartsCapped (node_at nodes (shape_of slots i)) slots ceilings (rank_of slots i)

-- the ceilings of the parts of each class are no higher than its rank
abbrev pub AreCapped : List Node → List Slot → List ℕ → Type 0
AreCapped nodes slots ceilings = (i : ℕ) → i < length slots → link_of slots i ≡ i → IsCapped nodes slots ceilings i

abbrev pub CappedBut : List Node → List Slot → List ℕ → List Saved → Type 0
CappedBut nodes slots ceilings saved = (i : ℕ) → i < length slots → link_of slots i ≡ i → IsCapped nodes slots ceilings i ⊎ IsPlace saved i

-- ceilings go down
pub record Lowered (old new : List ℕ) : Type 0 where
  pub len : length new ≡ length old
  pub down : (i : ℕ) → ceiling_of new i ≤ ceiling_of old i

-- the new ceilings of both are no higher than the old one of either
pub record BothLow (old new : List ℕ) (x y : ℕ) : Type 0 where
  pub lowered : Lowered old new
  pub first : (ceiling_of new x ≤ ceiling_of old x) × (ceiling_of new x ≤ ceiling_of old y)
  pub second : (ceiling_of new y ≤ ceiling_of old x) × (ceiling_of new y ≤ ceiling_of old y)

-- a rank below all that stands above either class
abbrev pub IsFit : List Slot → List ℕ → ℕ → ℕ → ℕ → Type 0
IsFit slots ceilings x y r = (k : ℕ) → ((rank_of slots x < k) × (ceiling_of ceilings x ≤ k)) ⊎ ((rank_of slots y < k) × (ceiling_of ceilings y ≤ k)) → r < k

-- one of the two was linked to the other
abbrev pub AreJoined : List Slot → List Slot → List ℕ → ℕ → ℕ → ℕ → List Saved → Type 0
AreJoined old new ceilings x y shape saved = (r : ℕ) × ((JoinedAt old new x y shape r saved ⊎ JoinedAt old new y x shape r saved) × IsFit old ceilings x y r)

-- classes are the same
pub record SameClasses (old new : List Slot) : Type 0 where
  pub len : length new ≡ length old
  pub link : (i : ℕ) → link_of new i ≡ link_of old i
  pub height : (i : ℕ) → height_of new i ≡ height_of old i
