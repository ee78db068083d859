-- The superclasses of classes, and what is reached over them.
use Rattle.std.specs.Prelude.{ℕ, ◌≡◌, ◌⊎◌, ◌↔◌, List, [], ◌++◌, take, Option, Some, None}
use Rattle.std.specs.List.{Contains, slice_get}
use Rattle.mk_base.specs.declared.name.Name.{Name}
use Rattle.face_model.specs.declared.decl.Body.{Body}
use Rattle.face_model.specs.declared.decl.Body.TheVariants.{Value, Alg, Synonym, Class, Abstract}
use Rattle.face_model.specs.declared.decl.Decl.{Decl}
use Rattle.face_model.specs.Environments.{Faces, first_decl}

abbrev pub supers_of_body : Body → List Name
supers_of_body (Value s) = []
supers_of_body (Alg renamed kinds constrs) = []
supers_of_body (Synonym kinds to ty) = []
supers_of_body (Class kind supers methods) = supers
supers_of_body (Abstract kinds) = []

abbrev pub supers_named : Decl → List Name
supers_named d = supers_of_body d.body

abbrev pub supers_in : Option Decl → List Name
supers_in None = []
supers_in (Some d) = supers_named d

-- the superclasses that the first declaration of a class names
abbrev pub supers_of : Faces → Name → List Name
supers_of fs c = supers_in (first_decl fs c)

-- a class reaches another over superclasses, by one step or more
pub data Reaches (supers : Name → List Name) : Name → Name → Type 0 where
  step : {a b : Name} → Contains (supers a) b → Reaches supers a b
  onward : {a b c : Name} → Contains (supers a) b → Reaches supers b c → Reaches supers a c

-- a class gives itself and all that it reaches; these may go in a circle
abbrev pub Gives : (Name → List Name) → Name → Name → Type 0
Gives supers d c = (d ≡ c) ⊎ Reaches supers d c

-- names with more behind them, each that isn't there yet
pub record Grown (old more new : List Name) : Type 0 where
  pub tail : List Name
  pub is : new ≡ old ++ tail
  pub has : (x : Name) → Contains new x ↔ (Contains old x ⊎ Contains more x)

-- the same with the superclasses of the class at a place
abbrev pub GrownAt : (Name → List Name) → List Name → ℕ → List Name → Type 0
GrownAt supers old at new = (c : Name) → slice_get old at ≡ Some c → Grown old (supers c) new

-- names of which the first so many were gone through: each is given by the class, and what they name is there
pub record Swept (supers : Name → List Name) (class : Name) (keys : List Name) (done : ℕ) : Type 0 where
  pub start : Contains keys class
  pub given : (x : Name) → Contains keys x → Gives supers class x
  pub closed : (y : Name) → Contains (take done keys) y → (x : Name) → Contains (supers y) x → Contains keys x
