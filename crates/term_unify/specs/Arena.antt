-- What is known of the terms of an arena: how each was made, and what it is under the kept solution.
use Rattle.std.specs.Prelude.{ℕ, zero, suc, ◌+◌, ◌<◌, ◌≡◌, Bool, true, false, List, [], ◌∷◌, ◌++◌, length, get_or, nat_eq, nat_lt, if◌then◌else◌}
use Rattle.unifiers.specs.Term.{Term}
use Rattle.unifiers.specs.Term.Term.{var, con, app}
use Rattle.term_classes.specs.declared.node.Slot.{Slot}
use Rattle.term_classes.specs.declared.node.Node.{Node}
use Rattle.term_classes.specs.declared.node.Node.TheVariants.{Free, Rigid, Con, App}
use Rattle.term_classes.specs.Slots.{shape_of, rank_of, root}
use Rattle.term_classes.specs.Fits.{node_at, Fits, FitsNode, Sound}
use Rattle.term_classes.specs.Settle.{AreOrdered, mark_of}
use Rattle.term_classes.specs.Ceilings.{AreCapped}

-- the terms, their classes, and the place of each variable by its number
pub record Arena : Type 0 where
  pub nodes : List Node
  pub slots : List Slot
  pub variables : List ℕ

-- a new term is a class of its own
abbrev pub new_slot : ℕ → ℕ → Slot
new_slot i r = record { link = i; shape = i; rank = r; height = 0 }

-- the term of a node, where q gives those of its parts
abbrev pub layer : Node → (ℕ → Term) → Term
layer (Free w) q = var w
layer (Rigid w) q = var w
layer (Con c) q = con c
layer (App f a) q = app (q f) (q a)

abbrev pub made_from : List Node → ℕ → ℕ → Term
made_from nodes zero i = var i
made_from nodes (suc k) i = layer (node_at nodes i) (made_from nodes k)

unfoldable pub made_at : List Node → ℕ → Term
made_at nodes i = made_from nodes (suc i) i

-- the term at a place, as it was made
abbrev pub made : Arena → ℕ → Term
made st = made_at st.nodes

abbrev pub solved_from : List Node → List Slot → ℕ → ℕ → Term
solved_from nodes slots zero i = var i
solved_from nodes slots (suc k) i = layer (node_at nodes (shape_of slots (root slots i))) (solved_from nodes slots k)

unfoldable pub solved_at : List Node → List Slot → ℕ → Term
solved_at nodes slots i = solved_from nodes slots (suc (rank_of slots (root slots i))) i

-- the term at a place, under the kept solution
abbrev pub solved : Arena → ℕ → Term
solved st = solved_at st.nodes st.slots

-- how many terms there are
abbrev pub size_of : Arena → ℕ
size_of st = length st.nodes

-- how many variables there are; their numbers are those below
abbrev pub count_of : Arena → ℕ
count_of st = length st.variables

-- the place of the variable with a number
abbrev pub place_at : List ℕ → ℕ → ℕ
place_at variables n = get_or variables n 0

abbrev pub rigid_node : Node → Bool
rigid_node (Free w) = false
rigid_node (Rigid w) = true
rigid_node (Con c) = false
rigid_node (App f a) = false

unfoldable pub is_rigid_at : List Node → List ℕ → ℕ → Bool
is_rigid_at nodes variables n = if nat_lt n (length variables) then rigid_node (node_at nodes (place_at variables n)) else false

-- the number is that of a rigid variable
abbrev pub is_rigid : Arena → ℕ → Bool
is_rigid st = is_rigid_at st.nodes st.variables

unfoldable pub solution_at : List Node → List Slot → List ℕ → ℕ → Term
solution_at nodes slots variables n = if nat_lt n (length variables) then solved_at nodes slots (place_at variables n) else var n

-- the kept solution
abbrev pub solution : Arena → ℕ → Term
solution st = solution_at st.nodes st.slots st.variables

-- a variable of that number
abbrev pub HasNumber : Node → ℕ → Type 0
HasNumber (Free w) n = w ≡ n
HasNumber (Rigid w) n = w ≡ n
HasNumber (Con c) n = ⊥
HasNumber (App f a) n = ⊥

-- the place of a variable is listed at its number
abbrev pub IsListed : List ℕ → Node → ℕ → Type 0
IsListed variables (Free w) i = (w < length variables) × (place_at variables w ≡ i)
IsListed variables (Rigid w) i = (w < length variables) × (place_at variables w ≡ i)
IsListed variables (Con c) i = Unit {0}
IsListed variables (App f a) i = Unit {0}

-- a new variable has the next number
abbrev pub IsNext : Node → ℕ → Type 0
IsNext (Free w) n = w ≡ n
IsNext (Rigid w) n = w ≡ n
IsNext (Con c) n = Unit {0}
IsNext (App f a) n = Unit {0}

-- how many variables there are with one more node
abbrev pub count_with : Node → ℕ → ℕ
count_with (Free w) n = n + 1
count_with (Rigid w) n = n + 1
count_with (Con c) n = n
count_with (App f a) n = n

-- how many of the first k nodes are variables
abbrev pub variables_before : List Node → ℕ → ℕ
variables_before nodes zero = 0
variables_before nodes (suc k) = count_with (node_at nodes k) (variables_before nodes k)

-- variables are numbered in the order of their places, and listed by number
pub record AreNumbered (nodes : List Node) (variables : List ℕ) : Type 0 where
  pub named : (n : ℕ) → n < length variables → (place_at variables n < length nodes) × HasNumber (node_at nodes (place_at variables n)) n
  pub listed : (i : ℕ) → i < length nodes → IsListed variables (node_at nodes i) i
  pub counted : (i : ℕ) → i < length nodes → IsNext (node_at nodes i) (variables_before nodes i)
  pub total : length variables ≡ variables_before nodes (length nodes)

-- the places with that of one more node
abbrev pub listed_with : Node → List ℕ → ℕ → List ℕ
listed_with (Free w) variables i = variables ++ i ∷ []
listed_with (Rigid w) variables i = variables ++ i ∷ []
listed_with (Con c) variables i = variables
listed_with (App f a) variables i = variables

-- the node is the rigid variable of that number
abbrev pub is_rigid_number : Node → ℕ → Bool
is_rigid_number (Free w) n = false
is_rigid_number (Rigid w) n = nat_eq n w
is_rigid_number (Con c) n = false
is_rigid_number (App f a) n = false

-- what fits the classes fits the terms as they were made
abbrev pub AreNatural : List Node → List Slot → Type 0
AreNatural nodes slots = (q : ℕ → Term) → Fits nodes slots q → (i : ℕ) → i < length nodes → FitsNode (node_at nodes i) q (q i)

pub record Holds (nodes : List Node) (slots : List Slot) (variables ceilings marks : List ℕ) (clock : ℕ) : Type 0 where
  pub sound : Sound nodes slots
  pub order : AreOrdered nodes slots
  pub natural : AreNatural nodes slots
  pub numbered : AreNumbered nodes variables
  pub capped : AreCapped nodes slots ceilings
  pub ceiling_len : length ceilings ≡ length slots
  pub len : length marks ≡ length slots
  pub fresh : (i : ℕ) → mark_of marks i < clock
