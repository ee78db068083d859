-- What is asked of each face in an environment: the constraints of an instance are on its variables, and each type
-- variable is below the count of its scheme or of its list of kinds.
use Rattle.std.specs.Prelude.{◌≡◌, ℕ, ◌+◌, ◌≤◌, ◌<◌, List, length, max}
use Rattle.std.specs.List.{AllByRecursion}
use Rattle.mk_base.specs.declared.ty.Ty.{Ty}
use Rattle.mk_base.specs.declared.ty.Ty.TheVariants as types
use Rattle.mk_base.specs.declared.ty.Ty.TheOpen.{Ty-F}
use Rattle.mk_base.specs.declared.ty.Ty.TheOpen.Ty-F.{Var, Con, App}
use Rattle.mk_base.specs.declared.ty.Ty.TheFolds.{fold-Ty}
use Rattle.face_model.specs.declared.scheme.Constraint.{Constraint}
use Rattle.face_model.specs.declared.scheme.Scheme.{Scheme}
use Rattle.face_model.specs.declared.decl.Field.{Field}
use Rattle.face_model.specs.declared.decl.Constr.{Constr}
use Rattle.face_model.specs.declared.decl.Method.{Method}
use Rattle.face_model.specs.declared.decl.Body.{Body}
use Rattle.face_model.specs.declared.decl.Body.TheVariants.{Value, Alg, Synonym, Class, Abstract}
use Rattle.face_model.specs.declared.decl.Decl.{Decl}
use Rattle.face_model.specs.declared.inst.Inst.{Inst}
use Rattle.face_model.specs.declared.face.Face.{Face}

-- the least count that all variables of a type are below
abbrev pub vars_step : Ty-F ℕ → ℕ
vars_step (Var n) = n + 1
vars_step (Con a) = 0
vars_step (App f x) = max f x

abbrev pub vars_of : Ty → ℕ
vars_of = fold-Ty ℕ vars_step

abbrev pub IsBelow : ℕ → Ty → Type 0
IsBelow count t = vars_of t ≤ count

abbrev pub ConstraintFormed : ℕ → Constraint → Type 0
ConstraintFormed count c = IsBelow count c.ty

abbrev pub SchemeFormed : Scheme → Type 0
SchemeFormed s = AllByRecursion (ConstraintFormed s.vars) s.context × IsBelow s.vars s.body

abbrev pub FieldFormed : ℕ → Field → Type 0
FieldFormed count f = IsBelow count f.ty

abbrev pub ConstrFormed : ℕ → Constr → Type 0
ConstrFormed count c = AllByRecursion (FieldFormed count) c.fields

abbrev pub MethodFormed : Method → Type 0
MethodFormed m = SchemeFormed m.scheme

abbrev pub BodyFormed : Body → Type 0
BodyFormed (Value s) = SchemeFormed s
BodyFormed (Alg renamed kinds constrs) = AllByRecursion (ConstrFormed (length kinds)) constrs
BodyFormed (Synonym kinds to ty) = IsBelow (length kinds) ty
BodyFormed (Class kind supers methods) = AllByRecursion MethodFormed methods
BodyFormed (Abstract kinds) = Unit {0}

abbrev pub DeclFormed : Decl → Type 0
DeclFormed d = BodyFormed d.body

-- a constraint on one of so many variables
abbrev pub OnVariable : ℕ → Constraint → Type 0
OnVariable count c = (n : ℕ) × (n < count) × (c.ty ≡ types.Var n)

abbrev pub InstFormed : Inst → Type 0
InstFormed i = AllByRecursion (OnVariable i.vars) i.context

abbrev pub FaceFormed : Face → Type 0
FaceFormed f = AllByRecursion DeclFormed f.decls × AllByRecursion InstFormed f.insts
