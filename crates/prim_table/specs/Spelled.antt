-- Names of `Prim`, and types, methods and classes over them, from short spellings.
use Rattle.std.specs.Prelude.{ℕ, zero, suc, ◌-◌, List, [], ◌∷◌, ◌++◌, length, Option, Some, None, codes, nat_eq, nat_lt, if◌then◌else◌}
use Rattle.mk_base.specs.declared.name.Name.{Name}
use Rattle.mk_base.specs.declared.name.Space.{Space}
use Rattle.mk_base.specs.declared.name.Space.TheVariants as spaces
use Rattle.mk_base.specs.declared.ty.Ty.{Ty}
use Rattle.mk_base.specs.declared.ty.Ty.TheVariants as types
use Rattle.face_model.specs.declared.fixity.Fixity.{Fixity}
use Rattle.face_model.specs.declared.fixity.Assoc.{Assoc}
use Rattle.face_model.specs.declared.scheme.Constraint.{Constraint}
use Rattle.face_model.specs.declared.decl.Method.{Method}

-- one more behind others
infixl 10 ◌⊳◌
abbrev pub ◌⊳◌ : {X : Type 0} → List X → X → List X
xs ⊳ x = xs ++ x ∷ []

-- a name of the unit `prim` and its module `Prim`
abbrev pub own : Space → List ℕ → Name
own s t = record { unit = record { text = codes "prim" }; «module» = record { text = codes "Prim" }; occ = record { space = s; text = t } }

abbrev pub type_name : List ℕ → Name
type_name t = own spaces.Ty t

abbrev pub con : List ℕ → Ty
con t = types.Con (type_name t)

abbrev pub applied : Ty → Ty → Ty
applied f a = types.App f a

abbrev pub function : Ty → Ty → Ty
function a b = applied (applied (con (codes "->")) a) b

abbrev pub list : Ty → Ty
list a = applied (con (codes "[]")) a

abbrev pub pair : Ty → Ty → Ty
pair a b = applied (applied (con (codes "(,)")) a) b

-- the types that a letter spells
abbrev pub letter : ℕ → List ℕ
letter c =
    if nat_eq c 66 then codes "Bool"
    else (if nat_eq c 67 then codes "Char"
    else (if nat_eq c 68 then codes "Double"
    else (if nat_eq c 70 then codes "Float"
    else (if nat_eq c 73 then codes "Int"
    else (if nat_eq c 79 then codes "Ordering"
    else (if nat_eq c 82 then codes "Ratio"
    else (if nat_eq c 87 then codes "IO"
    else (if nat_eq c 90 then codes "Integer"
    else codes "()"))))))))

abbrev pub Read : Type 0
Read = Ty × List ℕ

abbrev pub one : (List ℕ → Read) → (Ty → Ty) → List ℕ → Read
one read make cs = (make (read cs).0, (read cs).1)

abbrev pub two : (List ℕ → Read) → (Ty → Ty → Ty) → List ℕ → Read
two read make cs = (make (read cs).0 (read (read cs).1).0, (read (read cs).1).1)

-- A type in prefix form: `>` is a function's, `[` a list's, `,` a pair's, `@` an application, a digit a variable, and a letter a constructor.
abbrev pub read_as : (List ℕ → Read) → ℕ → List ℕ → Read
read_as read c cs =
    if nat_eq c 62 then two read function cs
    else (if nat_eq c 91 then one read list cs
    else (if nat_eq c 44 then two read pair cs
    else (if nat_eq c 64 then two read applied cs
    else (if nat_lt c 58 then (types.Var (c - 48), cs)
    else (con (letter c), cs)))))

unfoldable pub read : ℕ → List ℕ → Read
read zero cs = (con (codes "()"), cs)
read (suc n) [] = (con (codes "()"), [])
read (suc n) (c ∷ cs) = read_as (read n) c cs

abbrev pub spelled : List ℕ → Ty
spelled cs = (read (length cs) cs).0

-- a method's type is over so many variables, of which the class's is the first
abbrev pub method_in : List Constraint → Option Fixity → List ℕ → ℕ → List ℕ → Method
method_in context f occ vars ty = record { occ = occ; fixity = f; scheme = record { vars = vars; context = context; body = spelled ty } }

abbrev pub method : List ℕ → ℕ → List ℕ → Method
method occ vars ty = method_in [] None occ vars ty

abbrev pub fixity : Assoc → ℕ → Fixity
fixity a level = record { assoc = a; level = level }

abbrev pub operator : List ℕ → Assoc → ℕ → ℕ → List ℕ → Method
operator occ a level vars ty = method_in [] (Some (fixity a level)) occ vars ty

-- a class on a variable
abbrev pub on : List ℕ → ℕ → Constraint
on class n = record { class = type_name class; ty = types.Var n }
