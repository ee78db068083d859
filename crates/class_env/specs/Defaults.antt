-- Defaults of variables (Haskell 2010 Report, section 4.3.4).
use Rattle.std.specs.Prelude.{ℕ, ◌≡◌, ◌⊎◌, List, Option, Some, None, Bool, false, ◌||◌, nat_eq, codes}
use Rattle.std.specs.List.{Contains}
use Rattle.mk_base.specs.declared.name.Name.{Name}
use Rattle.mk_base.specs.declared.name.Space.TheVariants as spaces
use Rattle.mk_base.specs.declared.ty.Ty.{Ty}
use Rattle.mk_base.specs.declared.ty.Ty.TheVariants as types
use Rattle.face_model.specs.declared.inst.Inst.{Inst}
use Rattle.face_model.specs.declared.scheme.Constraint.{Constraint}
use Rattle.class_env.specs.Terms.{Term, Var, Con, App, term_of}
use Rattle.class_env.specs.Spine.{place}
use Rattle.class_env.specs.Supers.{Gives}
use Rattle.class_env.specs.Reduce.{reduced}

-- a type or class of the module `Prim`
abbrev pub prim_type : List ℕ → Name
prim_type t = record { unit = record { text = codes "prim" }; «module» = record { text = codes "Prim" }; occ = record { space = spaces.Ty; text = t } }

abbrev pub IsPrim : Name → Type 0
IsPrim n = (n.unit.text ≡ codes "prim") × (n.module.text ≡ codes "Prim")

abbrev pub numeric : Name
numeric = prim_type (codes "Num")

abbrev pub integer : Ty
integer = types.Con (prim_type (codes "Integer"))

abbrev pub double : Ty
double = types.Con (prim_type (codes "Double"))

-- whether a variable stands in a type
abbrev pub occurs : ℕ → Term → Bool
occurs v (Var n) = nat_eq n v
occurs v (Con a) = false
occurs v (App f x) = occurs v f || occurs v x

-- a constraint on the variable itself
abbrev pub IsOn : ℕ → Constraint → Type 0
IsOn v w = place (term_of w.ty) ≡ Some v

-- the variable itself at a class of `Prim`, or a constraint in which it doesn't stand
abbrev pub Permits : ℕ → Constraint → Type 0
Permits v w = (IsOn v w × IsPrim w.class) ⊎ (occurs v (term_of w.ty) ≡ false)

abbrev pub PermitsAll : ℕ → List Constraint → Type 0
PermitsAll v ws = (w : Constraint) → Contains ws w → Permits v w

-- some class of the variable is the numeric one or has it among its superclasses
abbrev pub HasNumeric : (Name → List Name) → ℕ → List Constraint → Type 0
HasNumeric supers v ws = (w : Constraint) × Contains ws w × IsOn v w × Gives supers w.class numeric

abbrev pub IsDefaultable : (Name → List Name) → ℕ → List Constraint → Type 0
IsDefaultable supers v ws = PermitsAll v ws × HasNumeric supers v ws

abbrev pub at_type : Name → Ty → Constraint
at_type c t = record { class = c; ty = t }

-- a constraint has a result where the variable is a type
abbrev pub FitsAt : (Name → Name → List Inst) → ℕ → Ty → Constraint → Type 0
FitsAt members v t w = IsOn v w → (reduced members (at_type w.class t)).fault ≡ None

-- all classes of the variable have an instance at a type
abbrev pub Fits : (Name → Name → List Inst) → ℕ → List Constraint → Ty → Type 0
Fits members v ws t = (w : Constraint) → Contains ws w → FitsAt members v t w

-- the first of the two types that fits, for a defaultable variable
abbrev pub IsDefault : (Name → List Name) → (Name → Name → List Inst) → ℕ → List Constraint → Option Ty → Type 0
IsDefault supers members v ws (Some t) =
    IsDefaultable supers v ws × (((t ≡ integer) × Fits members v ws integer) ⊎ ((t ≡ double) × (Fits members v ws integer → ⊥) × Fits members v ws double))
IsDefault supers members v ws None = (IsDefaultable supers v ws → ⊥) ⊎ ((Fits members v ws integer → ⊥) × (Fits members v ws double → ⊥))
