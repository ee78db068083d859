-- The types and values of `Prim`, and all its declarations in the order of a face: by name, values before types.
use Rattle.std.specs.Prelude.{ℕ, zero, suc, ◌+◌, List, [], ◌∷◌, ◌++◌, Option, Some, None, false, codes}
use Rattle.mk_base.specs.declared.kind.Kind.{Kind}
use Rattle.mk_base.specs.declared.kind.Kind.TheVariants as kinds
use Rattle.mk_base.specs.declared.name.Space.TheVariants as spaces
use Rattle.mk_base.specs.declared.ty.Ty.{Ty}
use Rattle.mk_base.specs.declared.ty.Ty.TheVariants as types
use Rattle.face_model.specs.declared.fixity.Assoc.TheVariants.{Right}
use Rattle.face_model.specs.declared.fixity.Fixity.{Fixity}
use Rattle.face_model.specs.declared.decl.Field.{Field}
use Rattle.face_model.specs.declared.decl.Constr.{Constr}
use Rattle.face_model.specs.declared.decl.Decl.{Decl}
use Rattle.face_model.specs.declared.decl.Body.{Body}
use Rattle.face_model.specs.declared.decl.Body.TheVariants as bodies
use Rattle.prim_table.specs.Spelled.{◌⊳◌, own, type_name, spelled, fixity}
use Rattle.prim_table.specs.Classes.{bounded_class, enum_class, eq_class, floating_class, fractional_class, functor_class, integral_class, monad_class, num_class, ord_class, read_class, real_class, real_frac_class, show_class}

abbrev pub type_decl : List ℕ → Body → Decl
type_decl occ body = record { name = type_name occ; fixity = None; body = body }

-- the kinds of so many parameters that are types
unfoldable pub stars : ℕ → List Kind
stars zero = []
stars (suc n) = stars n ++ kinds.Star ∷ []

-- a type whose constructors nobody sees
abbrev pub opaque : List ℕ → ℕ → Decl
opaque occ n = type_decl occ (bodies.Abstract (stars n))

abbrev pub synonym : List ℕ → ℕ → List ℕ → Decl
synonym occ n ty = type_decl occ (bodies.Synonym (stars n) kinds.Star (spelled ty))

abbrev pub field : Ty → Field
field t = record { label = []; fixity = None; strict = false; ty = t }

abbrev pub constr : List ℕ → Option Fixity → List Field → Constr
constr occ f fields = record { occ = occ; fixity = f; fields = fields }

abbrev pub constant : List ℕ → Constr
constant occ = constr occ None []

abbrev pub data_type : List ℕ → ℕ → List Constr → Decl
data_type occ n constrs = type_decl occ (bodies.Alg false (stars n) constrs)

-- a type of constructors without fields
abbrev pub enumeration : List ℕ → List Constr → Decl
enumeration occ constrs = data_type occ 0 constrs

-- fields of the first so many variables
unfoldable pub fields : ℕ → List Field
fields zero = []
fields (suc n) = fields n ++ field (types.Var n) ∷ []

unfoldable pub commas : ℕ → List ℕ
commas zero = []
commas (suc n) = commas n ++ 44 ∷ []

-- the name of tuples of one more part than commas
abbrev pub tuple_name : ℕ → List ℕ
tuple_name n = 40 ∷ commas n ++ 41 ∷ []

abbrev pub tuple : ℕ → Decl
tuple n = data_type (tuple_name n) (n + 1) (constr (tuple_name n) None (fields (n + 1)) ∷ [])

-- tuples of 2 to so many parts and 1
unfoldable pub tuples : ℕ → List Decl → List Decl
tuples zero out = out
tuples (suc n) out = tuples n out ⊳ tuple (suc n)

-- an element and a list of such
abbrev pub list_fields : List Field
list_fields = field (types.Var 0) ∷ field (spelled (codes "[0")) ∷ []

abbrev pub lists : Decl
lists = data_type (codes "[]") 1 (constant (codes "[]") ∷ constr (codes ":") (Some (fixity Right 5)) list_fields ∷ [])

abbrev pub value_with : Option Fixity → List ℕ → ℕ → List ℕ → Decl
value_with f occ vars ty = record { name = own spaces.Var occ; fixity = f; body = bodies.Value (record { vars = vars; context = []; body = spelled ty }) }

abbrev pub value : List ℕ → ℕ → List ℕ → Decl
value occ vars ty = value_with None occ vars ty

abbrev pub values : List Decl
values =
    value (codes "appendFile") 0 (codes ">[C>[C@WU")
    ∷ value (codes "error") 1 (codes ">[C0")
    ∷ value (codes "getChar") 0 (codes "@WC")
    ∷ value (codes "getContents") 0 (codes "@W[C")
    ∷ value (codes "getLine") 0 (codes "@W[C")
    ∷ value (codes "putChar") 0 (codes ">C@WU")
    ∷ value (codes "putStr") 0 (codes ">[C@WU")
    ∷ value (codes "readFile") 0 (codes ">[C@W[C")
    ∷ value_with (Some (fixity Right 0)) (codes "seq") 2 (codes ">0>11")
    ∷ value (codes "writeFile") 0 (codes ">[C>[C@WU")
    ∷ []

abbrev pub booleans : Decl
booleans = enumeration (codes "Bool") (constant (codes "False") ∷ constant (codes "True") ∷ [])

abbrev pub orderings : Decl
orderings = enumeration (codes "Ordering") (constant (codes "LT") ∷ constant (codes "EQ") ∷ constant (codes "GT") ∷ [])

abbrev pub units : Decl
units = data_type (codes "()") 0 (constant (codes "()") ∷ [])

-- Each of these is put behind what stands in front of it.

-- the unit type, tuples of 2 to 15 parts, and functions
abbrev pub special_types : List Decl → List Decl
special_types out = tuples 14 (out ⊳ units) ⊳ opaque (codes "->") 2

abbrev pub first_types : List Decl → List Decl
first_types out =
    out
    ⊳ booleans
    ⊳ bounded_class
    ⊳ opaque (codes "Char") 0
    ⊳ opaque (codes "Double") 0
    ⊳ enum_class

abbrev pub second_types : List Decl → List Decl
second_types out =
    out
    ⊳ eq_class
    ⊳ opaque (codes "Float") 0
    ⊳ floating_class
    ⊳ fractional_class

abbrev pub third_types : List Decl → List Decl
third_types out =
    out
    ⊳ functor_class
    ⊳ opaque (codes "IO") 1
    ⊳ opaque (codes "Int") 0
    ⊳ opaque (codes "Integer") 0
    ⊳ integral_class

abbrev pub fourth_types : List Decl → List Decl
fourth_types out =
    out
    ⊳ monad_class
    ⊳ num_class
    ⊳ ord_class
    ⊳ orderings

abbrev pub fifth_types : List Decl → List Decl
fifth_types out =
    out
    ⊳ opaque (codes "Ratio") 1
    ⊳ synonym (codes "Rational") 0 (codes "@RZ")
    ⊳ read_class
    ⊳ synonym (codes "ReadS") 1 (codes ">[C[,0[C")
    ⊳ real_class

abbrev pub sixth_types : List Decl → List Decl
sixth_types out =
    out
    ⊳ real_frac_class
    ⊳ show_class
    ⊳ synonym (codes "ShowS") 0 (codes ">[C[C")
    ⊳ synonym (codes "String") 0 (codes "[C")

-- up to `Fractional`
abbrev pub lower_types : List Decl → List Decl
lower_types out = second_types (first_types out)

-- from `Functor` to `Ordering`
abbrev pub middle_types : List Decl → List Decl
middle_types out = fourth_types (third_types out)

-- from `Ratio` on
abbrev pub upper_types : List Decl → List Decl
upper_types out = sixth_types (fifth_types out)

abbrev pub up_to_orderings : List Decl → List Decl
up_to_orderings out = middle_types (lower_types out)

-- the types and classes that have names
abbrev pub named_types : List Decl → List Decl
named_types out = upper_types (up_to_orderings out)

-- those of special syntax, those that have names, and lists
abbrev pub all_types : List Decl → List Decl
all_types out = named_types (special_types out) ⊳ lists

abbrev pub decls : List Decl
decls = all_types values
