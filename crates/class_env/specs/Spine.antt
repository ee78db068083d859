-- A type as a head that is applied to arguments.
use Rattle.std.specs.Prelude.{ℕ, ◌≡◌, ◌<◌, ◌+◌, List, [], ◌∷◌, ◌++◌, get_or, length, max, Option, Some, None}
use Rattle.mk_base.specs.declared.name.Name.{Name}
use Rattle.class_env.specs.Terms.{Term, Var, Con, App}
use Rattle.class_env.specs.declared.spine.Head.{Head as HeadFound}
use Rattle.class_env.specs.declared.spine.Head.TheVariants.{Variable as VariableFound, Constructor as ConstructorFound}

-- what is applied
pub data Head : Type 0 where
  Variable : ℕ → Head
  Constructor : Name → Head

abbrev pub head_is : HeadFound → Head
head_is (VariableFound n) = Variable n
head_is (ConstructorFound a) = Constructor a.now

abbrev pub head : Term → Head
head (Var n) = Variable n
head (Con a) = Constructor a
head (App f x) = head f

-- from left to right
abbrev pub arguments : Term → List Term
arguments (Var n) = []
arguments (Con a) = []
arguments (App f x) = arguments f ++ x ∷ []

abbrev pub depth : Term → ℕ
depth (Var n) = 0
depth (Con a) = 0
depth (App f x) = max (depth f) (depth x) + 1

-- the argument at a place; it is less deep
abbrev pub IsArgument : Term → ℕ → Term → Type 0
IsArgument t k a = (k < length (arguments t)) × (get_or (arguments t) k (Var 0) ≡ a) × (depth a < depth t)

-- the number of a variable
abbrev pub place : Term → Option ℕ
place (Var n) = Some n
place (Con a) = None
place (App f x) = None
