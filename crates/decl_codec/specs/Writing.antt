-- What can be written: sizes alone, since names have places.
use Rattle.std.specs.Prelude.{◌≡◌, ℕ, ◌+◌, ◌*◌, ◌<◌, ◌≤◌, ◌^◌, List, length}
use Rattle.std.specs.List.{AllByRecursion, flat_map}
use Rattle.mk_base.specs.declared.name.Name.{Name}
use Rattle.mk_base.specs.declared.ty.Ty.{Ty}
use Rattle.face_model.specs.declared.fixity.Assoc.{Assoc}
use Rattle.face_model.specs.declared.scheme.Constraint.{Constraint}
use Rattle.face_model.specs.declared.scheme.Scheme.{Scheme}
use Rattle.face_model.specs.declared.decl.Field.{Field}
use Rattle.face_model.specs.declared.decl.Constr.{Constr}
use Rattle.face_model.specs.declared.decl.Method.{Method}
use Rattle.face_model.specs.declared.decl.Body.{Body}
use Rattle.face_model.specs.declared.decl.Body.TheVariants.{Value, Alg, Synonym, Class, Abstract}
use Rattle.face_model.specs.declared.decl.Decl.{Decl}
use Rattle.wire.specs.Wire.{IsNum}
use Rattle.decl_codec.specs.Blobs.{FixFits, assoc_number}
use Rattle.face_model.specs.Formed.{vars_of}
use Rattle.decl_codec.specs.Names.{AreRising}

-- a table whose names rise, and are fewer than 2 ^ 32
pub record IsTable (names : List Name) : Type 0 where
  pub rises : AreRising names
  pub short : IsNum (length names)

abbrev pub each : {X : Type 0} → (X → List ℕ) → List X → List ℕ
each f xs = flat_map f xs

abbrev pub side : Assoc → ℕ
side s = 10 * assoc_number s

abbrev pub TyPuts : Ty → Type 0
TyPuts t = vars_of t ≤ 2 ^ 32

abbrev pub SchemePuts : Scheme → Type 0
SchemePuts s = IsNum (length s.context) × AllByRecursion (λ (c : Constraint). TyPuts c.ty) s.context × TyPuts s.body

abbrev pub FieldPuts : Field → Type 0
FieldPuts f = IsNum (length f.label) × FixFits f.fixity × TyPuts f.ty

abbrev pub ConstrPuts : Constr → Type 0
ConstrPuts c = IsNum (length c.occ) × FixFits c.fixity × IsNum (length c.fields) × AllByRecursion FieldPuts c.fields

abbrev pub MethodPuts : Method → Type 0
MethodPuts m = IsNum (length m.occ) × FixFits m.fixity × SchemePuts m.scheme

abbrev pub BodyPuts : Body → Type 0
BodyPuts (Value s) = SchemePuts s
BodyPuts (Alg renamed kinds constrs) = IsNum (length kinds) × IsNum (length constrs) × AllByRecursion ConstrPuts constrs
BodyPuts (Synonym kinds to ty) = IsNum (length kinds) × TyPuts ty
BodyPuts (Class kind supers methods) = IsNum (length supers) × IsNum (length methods) × AllByRecursion MethodPuts methods
BodyPuts (Abstract kinds) = IsNum (length kinds)

abbrev pub DeclPuts : Decl → Type 0
DeclPuts d = FixFits d.fixity × BodyPuts d.body
