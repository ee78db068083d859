-- A walk down the classes from some that are out of order.
use Rattle.std.specs.Prelude.{ℕ, ◌+◌, ◌<◌, ◌≤◌, ◌≡◌, ◌≢◌, ◌⊎◌, ◌↔◌, List, get_or, length, nat_lt, sum_by, if◌then◌else◌}
use Rattle.unifiers.specs.Term.{Term, size}
use Rattle.term_classes.specs.declared.node.Slot.{Slot}
use Rattle.term_classes.specs.declared.node.Node.{Node}
use Rattle.term_classes.specs.declared.node.Node.TheVariants.{Free, Rigid, Con, App}
use Rattle.term_classes.specs.declared.settle.Next.{Next}
use Rattle.term_classes.specs.declared.settle.Next.TheVariants.{Down, Loop, Done}
use Rattle.term_classes.specs.Slots.{link_of, shape_of, rank_of, height_of, root}
use Rattle.term_classes.specs.Ceilings.{SameClasses}
use Rattle.term_classes.specs.Fits.{Fits, node_at, Sound, IsOrdered}

-- d is a part of what has that shape
abbrev pub IsPartOf : Node → List Slot → ℕ → Type 0
IsPartOf (Free w) slots d = ⊥
IsPartOf (Rigid w) slots d = ⊥
IsPartOf (Con c) slots d = ⊥
IsPartOf (App f a) slots d = (d ≡ root slots f) ⊎ (d ≡ root slots a)

abbrev pub IsPart : List Node → List Slot → ℕ → ℕ → Type 0
IsPart nodes slots c d = IsPartOf (node_at nodes (shape_of slots c)) slots d

abbrev pub mark_of : List ℕ → ℕ → ℕ
mark_of marks i = get_or marks i 0

-- how many of the marks are below c
abbrev pub below : ℕ → List ℕ → ℕ
below c ms = sum_by (λ m. if nat_lt m c then 1 else 0) ms

abbrev pub IsOn : List ℕ → ℕ → Type 0
IsOn path i = (k : ℕ) × (k < length path) × (get_or path k 0 ≡ i)

abbrev pub AreRoots : List Slot → List ℕ → Type 0
AreRoots slots starts = (k : ℕ) → k < length starts → (get_or starts k 0 < length slots) × (link_of slots (get_or starts k 0) ≡ get_or starts k 0)

-- all classes are in order, but the starts that aren't finished, of a rank from low on; the ranks of finished ones
-- are below next
pub record Walk (nodes : List Node) (slots : List Slot) (marks starts : List ℕ) (clock low next : ℕ) : Type 0 where
  pub sound : Sound nodes slots
  pub len : length marks ≡ length slots
  pub order : (i : ℕ) → i < length slots → link_of slots i ≡ i → IsOrdered nodes slots i ⊎ ((mark_of marks i ≤ clock) × (low ≤ rank_of slots i) × IsOn starts i)
  pub finished : (i : ℕ) → i < length slots → clock < mark_of marks i → rank_of slots i < next
  pub room : next + below (clock + 1) marks ≤ low

abbrev pub IsUnder : List Node → List Slot → ℕ → ℕ → Type 0
IsUnder nodes slots c d = (q : ℕ → Term) → Fits nodes slots q → size (q d) < size (q c)

-- the path goes down, and has exactly what is marked as on it
pub record OnPath (nodes : List Node) (slots : List Slot) (marks : List ℕ) (clock : ℕ) (path : List ℕ) : Type 0 where
  pub each : (k : ℕ) → k < length path → (get_or path k 0 < length slots) × (link_of slots (get_or path k 0) ≡ get_or path k 0) × (mark_of marks (get_or path k 0) ≡ clock)
  pub marked : (i : ℕ) → i < length slots → mark_of marks i ≡ clock → IsOn path i
  pub down : (k m : ℕ) → k < m → m < length path → IsUnder nodes slots (get_or path k 0) (get_or path m 0)
  pub apart : (k m : ℕ) → k < m → m < length path → get_or path k 0 ≢ get_or path m 0

-- what is seen at a part: a class that wasn't walked, one that is on the path, or one that is done with
abbrev pub IsNext : List Node → List Slot → List ℕ → ℕ → ℕ → (ℕ → Type 0) → Next → Type 0
IsNext nodes slots marks clock base P (Down d) = P d × (d < length slots) × (link_of slots d ≡ d) × (mark_of marks d < clock)
IsNext nodes slots marks clock base P (Loop d) = P d × (d < length slots) × (mark_of marks d ≡ clock)
IsNext nodes slots marks clock base P Done = (d : ℕ) → P d → (clock < mark_of marks d) ⊎ (rank_of slots d < base)

-- ranks alone differ
pub record Reranked (old new : List Slot) (at r : ℕ) : Type 0 where
  pub len : length new ≡ length old
  pub link : (i : ℕ) → link_of new i ≡ link_of old i
  pub shape : (i : ℕ) → shape_of new i ≡ shape_of old i
  pub height : (i : ℕ) → height_of new i ≡ height_of old i
  pub rank : rank_of new at ≡ r
  pub other : (i : ℕ) → i ≢ at → rank_of new i ≡ rank_of old i

-- a part of the walk
pub record Turned (nodes : List Node) (old new : List Slot) (marks later starts : List ℕ) (clock low after : ℕ) (onward : List ℕ) : Type 0 where
  pub walk : Walk nodes new later starts clock low after
  pub on : OnPath nodes new later clock onward
  pub fits : (q : ℕ → Term) → Fits nodes new q ↔ Fits nodes old q
  pub seen : (i : ℕ) → clock ≤ mark_of marks i → clock ≤ mark_of later i
  pub same : SameClasses old new

abbrev pub AreOrdered : List Node → List Slot → Type 0
AreOrdered nodes slots = (i : ℕ) → i < length slots → link_of slots i ≡ i → IsOrdered nodes slots i

-- so many classes are left: those that weren't met count twice, those on the path once
abbrev pub left : ℕ → List ℕ → ℕ
left clock marks = below clock marks + below (clock + 1) marks
