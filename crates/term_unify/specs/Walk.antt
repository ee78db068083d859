-- A walk over the variables of a value, by first place.
use Rattle.std.specs.Prelude.{ℕ, ◌+◌, ◌*◌, ◌<◌, ◌≡◌, true, List, [], ◌∷◌, length}
use Rattle.unifiers.specs.Term.{Term, Occurs, size}
use Rattle.unifiers.specs.Reading.{places, stands_in}
use Rattle.term_classes.specs.declared.node.Slot.{Slot}
use Rattle.term_classes.specs.declared.node.Node.{Node}
use Rattle.term_classes.specs.Slots.{root}
use Rattle.term_classes.specs.Settle.{mark_of}
use Rattle.term_unify.specs.declared.walk.Visit.{Visit}
use Rattle.term_unify.specs.declared.walk.Visit.TheVariants.{Enter, Leave}
use Rattle.term_unify.specs.Arena.{solved_at, place_at}

-- the variables that were found, and then those of what is entered
abbrev pub visit : List Node → List Slot → List ℕ → Visit → List ℕ
visit nodes slots found (Enter t) = places found (solved_at nodes slots t)
visit nodes slots found (Leave r) = found

-- and those of all that is left, the last first
abbrev pub gather : List Node → List Slot → List ℕ → List Visit → List ℕ
gather nodes slots found [] = found
gather nodes slots found (x ∷ xs) = visit nodes slots (gather nodes slots found xs) x

abbrev pub HasAll : List ℕ → Term → Type 0
HasAll found t = (v : ℕ) → Occurs v t → stands_in found v ≡ true

abbrev pub IsCovered : List Node → List Slot → List ℕ → Visit → Type 0
IsCovered nodes slots found (Enter t) = Unit {0}
IsCovered nodes slots found (Leave r) = HasAll found (solved_at nodes slots r)

-- a class is left when all of its variables were found
abbrev pub AreCovered : List Node → List Slot → List ℕ → List Visit → Type 0
AreCovered nodes slots found [] = Unit {0}
AreCovered nodes slots found (x ∷ xs) = IsCovered nodes slots (gather nodes slots found xs) x × AreCovered nodes slots found xs

abbrev pub IsWithin : List Slot → Visit → Type 0
IsWithin slots (Enter t) = t < length slots
IsWithin slots (Leave r) = r < length slots

abbrev pub AreWithin : List Slot → List Visit → Type 0
AreWithin slots [] = Unit {0}
AreWithin slots (x ∷ xs) = IsWithin slots x × AreWithin slots xs

abbrev pub weigh : List Node → List Slot → Visit → ℕ
weigh nodes slots (Enter t) = 3 * size (solved_at nodes slots t)
weigh nodes slots (Leave r) = 1

-- what is left, as steps of a walk over the whole tree
abbrev pub weight : List Node → List Slot → List Visit → ℕ
weight nodes slots [] = 0
weight nodes slots (x ∷ xs) = weigh nodes slots x + weight nodes slots xs

-- the variables of what is marked were found, and the class of each variable that was found is marked
pub record Gathers (nodes : List Node) (slots : List Slot) (variables marks : List ℕ) (clock : ℕ) (found : List ℕ) (todo : List Visit) : Type 0 where
  pub done : (r : ℕ) → mark_of marks r ≡ clock → HasAll found (solved_at nodes slots r)
  pub seen : (v : ℕ) → stands_in found v ≡ true → mark_of marks (root slots (place_at variables v)) ≡ clock
  pub covered : AreCovered nodes slots found todo
  pub within : AreWithin slots todo
  pub len : length marks ≡ length slots

-- one visit more
pub record Visited (nodes : List Node) (slots : List Slot) (variables marks : List ℕ) (clock : ℕ) (found more : List ℕ) (todo later : List Visit) : Type 0 where
  pub gathers : Gathers nodes slots variables marks clock more later
  pub same : gather nodes slots more later ≡ gather nodes slots found todo
  pub fewer : weight nodes slots later < weight nodes slots todo
