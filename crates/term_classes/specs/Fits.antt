-- Which terms the nodes and classes of an arena can stand for.
use Rattle.std.specs.Prelude.{ℕ, zero, suc, ◌+◌, ◌<◌, ◌≡◌, ◌⊎◌, List, get_or, length, nat_eq, if◌then◌else◌}
use Rattle.std.specs.List.{Contains}
use Rattle.unifiers.specs.Term.{Term}
use Rattle.unifiers.specs.Term.Term.{var, con, app}
use Rattle.term_classes.specs.declared.node.Slot.{Slot}
use Rattle.term_classes.specs.declared.node.Saved.{Saved}
use Rattle.term_classes.specs.declared.node.Pair.{Pair}
use Rattle.term_classes.specs.declared.node.Node.{Node}
use Rattle.term_classes.specs.declared.node.Node.TheVariants.{Free, Rigid, Con, App}
use Rattle.term_classes.specs.Slots.{AreLinked, link_of, shape_of, rank_of, root}
use Rattle.term_classes.specs.Undo.{IsPlace}

abbrev pub node_at : List Node → ℕ → Node
node_at nodes i = get_or nodes i (Free 0)

-- a class of this shape can stand for t, where q says what the parts are
abbrev pub FitsNode : Node → (ℕ → Term) → Term → Type 0
FitsNode (Free w) q t = Unit {0}
FitsNode (Rigid w) q t = t ≡ var w
FitsNode (Con c) q t = t ≡ con c
FitsNode (App f a) q t = t ≡ app (q f) (q a)

-- q gives each class one term, of its shape
pub record Fits (nodes : List Node) (slots : List Slot) (q : ℕ → Term) : Type 0 where
  pub links : (i : ℕ) → i < length slots → q i ≡ q (link_of slots i)
  pub shapes : (i : ℕ) → i < length slots → link_of slots i ≡ i → FitsNode (node_at nodes (shape_of slots i)) q (q i)

abbrev pub AreEqual : List Pair → (ℕ → Term) → Type 0
AreEqual todo q = (p : Pair) → Contains todo p → q p.left ≡ q p.right

abbrev pub ArePairsOf : ℕ → List Pair → Type 0
ArePairsOf n todo = (p : Pair) → Contains todo p → (p.left < n) × (p.right < n)

-- parts stand before what is made of them
abbrev pub HasParts : Node → ℕ → Type 0
HasParts (Free w) i = Unit {0}
HasParts (Rigid w) i = Unit {0}
HasParts (Con c) i = Unit {0}
HasParts (App f a) i = (f < i) × (a < i)

pub record Sound (nodes : List Node) (slots : List Slot) : Type 0 where
  pub linked : AreLinked slots
  pub len : length slots ≡ length nodes
  pub shapes : (i : ℕ) → i < length slots → shape_of slots i < length nodes
  pub inside : (i : ℕ) → i < length slots → link_of slots i ≡ i → root slots (shape_of slots i) ≡ i
  pub parts : (i : ℕ) → i < length nodes → HasParts (node_at nodes i) i

-- the ranks of the parts are below r
abbrev pub PartsBelow : Node → List Slot → ℕ → Type 0
PartsBelow (Free w) slots r = Unit {0}
PartsBelow (Rigid w) slots r = Unit {0}
PartsBelow (Con c) slots r = Unit {0}
PartsBelow (App f a) slots r = (rank_of slots (root slots f) < r) × (rank_of slots (root slots a) < r)

-- the rank of a class is above those of its parts
abbrev pub IsOrdered : List Node → List Slot → ℕ → Type 0
IsOrdered nodes slots i = PartsBelow (node_at nodes (shape_of slots i)) slots (rank_of slots i)

abbrev pub OrderedBut : List Node → List Slot → List Saved → Type 0
OrderedBut nodes slots saved = (i : ℕ) → i < length slots → link_of slots i ≡ i → IsOrdered nodes slots i ⊎ IsPlace saved i

-- 1 where n leads to itself
abbrev pub own : ℕ → ℕ → ℕ
own l n = if nat_eq l n then 1 else 0

-- how many of the first n are roots
abbrev pub roots : List Slot → ℕ → ℕ
roots slots zero = 0
roots slots (suc n) = own (link_of slots n) n + roots slots n
