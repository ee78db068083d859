-- A default is one, and what it reads.
use Rattle.std.specs.Prelude.{ℕ, ◌≡◌, ◌↔◌, List, Option}
use Rattle.std.specs.List.{Contains}
use Rattle.mk_base.specs.declared.name.Name.{Name}
use Rattle.mk_base.specs.declared.ty.Ty.{Ty}
use Rattle.face_model.specs.Environments.{Faces, insts_of}
use Rattle.face_model.specs.declared.inst.Inst.{Inst}
use Rattle.face_model.specs.declared.scheme.Constraint.{Constraint}
use Rattle.class_env.specs.Supers.{supers_of, Gives}
use Rattle.class_env.specs.Reduce.{reduced}
use Rattle.class_env.specs.Laws.{AgreesAt}
use Rattle.class_env.specs.Defaults.{IsOn, IsDefault, Fits, at_type, integer, double}

-- a variable has no two defaults, and none beside none
abbrev pub OneDefault : Type 0
OneDefault = (supers : Name → List Name) (members : Name → Name → List Inst) (v : ℕ) (ws : List Constraint) (a b : Option Ty)
    → IsDefault supers members v ws a → IsDefault supers members v ws b → a ≡ b

-- two environments with the same superclasses of all classes that the classes of a variable give
abbrev pub SameAboveOn : Faces → Faces → ℕ → List Constraint → Type 0
SameAboveOn fs gs v ws = (w : Constraint) → Contains ws w → IsOn v w → (c : Name) → Gives (supers_of fs) w.class c → supers_of fs c ≡ supers_of gs c

-- and with the same instances of all pairs that the classes of a variable meet at a type
abbrev pub SameMetAt : Faces → Faces → ℕ → List Constraint → Ty → Type 0
SameMetAt fs gs v ws t = (w : Constraint) → Contains ws w → IsOn v w → AgreesAt (insts_of fs) (insts_of gs) (reduced (insts_of fs) (at_type w.class t)).met

-- nothing else is read, and `Double` is looked at where `Integer` doesn't fit alone
abbrev pub DefaultsReadNoMore : Type 0
DefaultsReadNoMore = (fs gs : Faces) (v : ℕ) (ws : List Constraint) (o : Option Ty) → SameAboveOn fs gs v ws → SameMetAt fs gs v ws integer
    → ((Fits (insts_of fs) v ws integer → ⊥) → SameMetAt fs gs v ws double)
    → IsDefault (supers_of fs) (insts_of fs) v ws o ↔ IsDefault (supers_of gs) (insts_of gs) v ws o
