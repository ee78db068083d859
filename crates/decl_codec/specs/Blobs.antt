-- Declarations as bytes, a layer at a time. How a name is spelled is left open: as its place in a table, or in full.
use Rattle.std.specs.Prelude.{◌≡◌, ℕ, ◌+◌, ◌*◌, ◌≤◌, ◌<◌, List, [], ◌∷◌, ◌++◌, length, map, max, Option, Some, None, Bool, cond}
use Rattle.std.specs.List.{AllByRecursion, flat_map}
use Rattle.mk_base.specs.declared.name.Name.{Name}
use Rattle.mk_base.specs.declared.name.Occ.{Occ}
use Rattle.mk_base.specs.declared.name.Space.TheVariants as spaces
use Rattle.mk_base.specs.declared.kind.Kind.{Kind}
use Rattle.mk_base.specs.declared.kind.Kind.TheOpen.{Kind-F}
use Rattle.mk_base.specs.declared.kind.Kind.TheOpen.Kind-F.{Star, Arrow}
use Rattle.mk_base.specs.declared.kind.Kind.TheFolds.{fold-Kind}
use Rattle.mk_base.specs.declared.ty.Ty.{Ty}
use Rattle.mk_base.specs.declared.ty.Ty.TheOpen.{Ty-F}
use Rattle.mk_base.specs.declared.ty.Ty.TheOpen.Ty-F.{Var, Con, App}
use Rattle.mk_base.specs.declared.ty.Ty.TheFolds.{fold-Ty}
use Rattle.mk_base.specs.Types.{levels_of}
use Rattle.face_model.specs.Formed.{vars_of}
use Rattle.face_model.specs.declared.fixity.Assoc.{Assoc}
use Rattle.face_model.specs.declared.fixity.Assoc.TheVariants as assocs
use Rattle.face_model.specs.declared.fixity.Fixity.{Fixity}
use Rattle.face_model.specs.declared.scheme.Constraint.{Constraint}
use Rattle.face_model.specs.declared.scheme.Scheme.{Scheme}
use Rattle.face_model.specs.declared.decl.Field.{Field}
use Rattle.face_model.specs.declared.decl.Constr.{Constr}
use Rattle.face_model.specs.declared.decl.Method.{Method}
use Rattle.face_model.specs.declared.decl.Body.{Body}
use Rattle.face_model.specs.declared.decl.Body.TheVariants.{Value, Alg, Synonym, Class, Abstract}
use Rattle.face_model.specs.declared.decl.Decl.{Decl}
use Rattle.wire.specs.Wire.{num, IsNum, text, IsText, list_of, AreMembers}

-- ---- fixities and flags

abbrev pub flag_byte : Bool → ℕ
flag_byte b = cond b 1 0

abbrev pub flag : Bool → List ℕ
flag b = flag_byte b ∷ []

abbrev pub assoc_number : Assoc → ℕ
assoc_number assocs.Left = 0
assoc_number assocs.Right = 1
assoc_number assocs.Neither = 2

-- 0 where there is none, else one more than ten times the side and the level
abbrev pub fix_byte : Option Fixity → ℕ
fix_byte None = 0
fix_byte (Some f) = 1 + 10 * assoc_number f.assoc + f.level

abbrev pub fix : Option Fixity → List ℕ
fix f = fix_byte f ∷ []

abbrev pub FixFits : Option Fixity → Type 0
FixFits None = Unit {0}
FixFits (Some f) = f.level ≤ 9

-- ---- kinds: 0, or 1 and two parts

abbrev pub kind_step : Kind-F (List ℕ) → List ℕ
kind_step Star = 0 ∷ []
kind_step (Arrow f x) = 1 ∷ (f ++ x)

abbrev pub kind_bytes : Kind → List ℕ
kind_bytes = fold-Kind (List ℕ) kind_step

-- the nodes of the longest path from the root, and all nodes
abbrev pub kind_levels_step : Kind-F ℕ → ℕ
kind_levels_step Star = 1
kind_levels_step (Arrow f x) = max f x + 1

abbrev pub kind_levels : Kind → ℕ
kind_levels = fold-Kind ℕ kind_levels_step

abbrev pub kind_nodes_step : Kind-F ℕ → ℕ
kind_nodes_step Star = 1
kind_nodes_step (Arrow f x) = f + x + 1

abbrev pub kind_nodes : Kind → ℕ
kind_nodes = fold-Kind ℕ kind_nodes_step

abbrev pub KindFits : Kind → Type 0
KindFits k = (kind_levels k ≤ 1000) × (kind_nodes k ≤ 65536)

-- ---- types: what is asked of them

abbrev pub nodes_step : Ty-F ℕ → ℕ
nodes_step (Var n) = 1
nodes_step (Con a) = 1
nodes_step (App f x) = f + x + 1

abbrev pub nodes_of : Ty → ℕ
nodes_of = fold-Ty ℕ nodes_step

-- the names that occur, in their order
abbrev pub ty_names_step : Ty-F (List Name) → List Name
ty_names_step (Var n) = []
ty_names_step (Con a) = a ∷ []
ty_names_step (App f x) = f ++ x

abbrev pub ty_names : Ty → List Name
ty_names = fold-Ty (List Name) ty_names_step

abbrev pub constraint_names : Constraint → List Name
constraint_names c = c.class ∷ ty_names c.ty

abbrev pub scheme_names : Scheme → List Name
scheme_names s = flat_map constraint_names s.context ++ ty_names s.body

abbrev pub field_names : Field → List Name
field_names f = ty_names f.ty

abbrev pub constr_names : Constr → List Name
constr_names c = flat_map field_names c.fields

abbrev pub method_names : Method → List Name
method_names m = scheme_names m.scheme

abbrev pub body_names : Body → List Name
body_names (Value s) = scheme_names s
body_names (Alg renamed kinds constrs) = flat_map constr_names constrs
body_names (Synonym kinds to ty) = ty_names ty
body_names (Class kind supers methods) = supers ++ flat_map method_names methods
body_names (Abstract kinds) = []

-- ---- the names that belong to a declaration: constructors, labels and methods

abbrev pub label_occs : List ℕ → List Occ
label_occs [] = []
label_occs (b ∷ label) = record { space = spaces.Var; text = b ∷ label } ∷ []

abbrev pub field_occs : Field → List Occ
field_occs f = label_occs f.label

abbrev pub constr_occs : Constr → List Occ
constr_occs c = record { space = spaces.Con; text = c.occ } ∷ flat_map field_occs c.fields

abbrev pub method_occs : Method → List Occ
method_occs m = record { space = spaces.Var; text = m.occ } ∷ []

abbrev pub body_occs : Body → List Occ
body_occs (Value s) = []
body_occs (Alg renamed kinds constrs) = flat_map constr_occs constrs
body_occs (Synonym kinds to ty) = []
body_occs (Class kind supers methods) = flat_map method_occs methods
body_occs (Abstract kinds) = []

-- ---- spellings

module _ (spell_name : Name → List ℕ) where
  -- 0 and a variable, 1 and a name, or 2 and two parts
  abbrev pub ty_step : Ty-F (List ℕ) → List ℕ
  ty_step (Var n) = 0 ∷ num n
  ty_step (Con a) = 1 ∷ spell_name a
  ty_step (App f x) = 2 ∷ (f ++ x)

  abbrev pub ty_bytes : Ty → List ℕ
  ty_bytes = fold-Ty (List ℕ) ty_step

  abbrev pub constraint : Constraint → List ℕ
  constraint c = spell_name c.class ++ ty_bytes c.ty

  abbrev pub scheme : Scheme → List ℕ
  scheme s = num s.vars ++ (list_of constraint s.context ++ ty_bytes s.body)

  abbrev pub field : Field → List ℕ
  field f = text f.label ++ (fix f.fixity ++ (flag f.strict ++ ty_bytes f.ty))

  abbrev pub constr : Constr → List ℕ
  constr c = text c.occ ++ (fix c.fixity ++ list_of field c.fields)

  abbrev pub method : Method → List ℕ
  method m = text m.occ ++ (fix m.fixity ++ scheme m.scheme)

  abbrev pub body : Body → List ℕ
  body (Value s) = 0 ∷ scheme s
  body (Alg renamed kinds constrs) = cond renamed 2 1 ∷ (list_of kind_bytes kinds ++ list_of constr constrs)
  body (Synonym kinds to ty) = 3 ∷ (list_of kind_bytes kinds ++ (kind_bytes to ++ ty_bytes ty))
  body (Class kind supers methods) = 4 ∷ (kind_bytes kind ++ (list_of spell_name supers ++ list_of method methods))
  body (Abstract kinds) = 5 ∷ list_of kind_bytes kinds

  abbrev pub blob : Decl → List ℕ
  blob d = fix d.fixity ++ body d.body

-- ---- what has a spelling, where a name has one if it is `Known`

module _ (Known : Name → Type 0) where
  -- at most 1,000 levels and 65,536 nodes, the variables below the count
  abbrev pub TyFits : ℕ → Ty → Type 0
  TyFits count t = ((levels_of t ≤ 1000) × (vars_of t ≤ count) × AllByRecursion Known (ty_names t)) × (nodes_of t ≤ 65536)

  abbrev pub ConstraintFits : ℕ → Constraint → Type 0
  ConstraintFits count c = Known c.class × TyFits count c.ty

  abbrev pub SchemeFits : Scheme → Type 0
  SchemeFits s = IsNum s.vars × AreMembers (ConstraintFits s.vars) s.context × TyFits s.vars s.body

  abbrev pub FieldFits : ℕ → Field → Type 0
  FieldFits count f = IsText f.label × FixFits f.fixity × TyFits count f.ty

  abbrev pub ConstrFits : ℕ → Constr → Type 0
  ConstrFits count c = IsText c.occ × FixFits c.fixity × AreMembers (FieldFits count) c.fields

  abbrev pub MethodFits : Method → Type 0
  MethodFits m = IsText m.occ × FixFits m.fixity × SchemeFits m.scheme

  abbrev pub BodyFits : Body → Type 0
  BodyFits (Value s) = SchemeFits s
  BodyFits (Alg renamed kinds constrs) = AreMembers KindFits kinds × AreMembers (ConstrFits (length kinds)) constrs
  BodyFits (Synonym kinds to ty) = AreMembers KindFits kinds × KindFits to × TyFits (length kinds) ty
  BodyFits (Class kind supers methods) = KindFits kind × AreMembers Known supers × AreMembers MethodFits methods
  BodyFits (Abstract kinds) = AreMembers KindFits kinds

  abbrev pub DeclFits : Decl → Type 0
  DeclFits d = FixFits d.fixity × BodyFits d.body
