-- The classes of `Prim` (Haskell 2010 Report, section 6.3 and chapter 9), each with its methods in the order of their declaration.
use Rattle.std.specs.Prelude.{ℕ, List, [], ◌∷◌, None, codes}
use Rattle.mk_base.specs.declared.kind.Kind.{Kind}
use Rattle.mk_base.specs.declared.kind.Kind.TheVariants as kinds
use Rattle.mk_base.specs.declared.name.Name.{Name}
use Rattle.face_model.specs.declared.fixity.Assoc.TheVariants.{Left, Right, Neither}
use Rattle.face_model.specs.declared.scheme.Constraint.{Constraint}
use Rattle.face_model.specs.declared.decl.Decl.{Decl}
use Rattle.face_model.specs.declared.decl.Body.TheVariants as bodies
use Rattle.face_model.specs.declared.decl.Method.{Method}
use Rattle.prim_table.specs.Spelled.{method, method_in, operator, on, type_name}

abbrev pub eq_methods : List Method
eq_methods =
    operator (codes "==") Neither 4 1 (codes ">0>0B")
    ∷ operator (codes "/=") Neither 4 1 (codes ">0>0B")
    ∷ []

abbrev pub ord_methods : List Method
ord_methods =
    method (codes "compare") 1 (codes ">0>0O")
    ∷ operator (codes "<") Neither 4 1 (codes ">0>0B")
    ∷ operator (codes "<=") Neither 4 1 (codes ">0>0B")
    ∷ operator (codes ">=") Neither 4 1 (codes ">0>0B")
    ∷ operator (codes ">") Neither 4 1 (codes ">0>0B")
    ∷ method (codes "max") 1 (codes ">0>00")
    ∷ method (codes "min") 1 (codes ">0>00")
    ∷ []

abbrev pub enum_methods : List Method
enum_methods =
    method (codes "succ") 1 (codes ">00")
    ∷ method (codes "pred") 1 (codes ">00")
    ∷ method (codes "toEnum") 1 (codes ">I0")
    ∷ method (codes "fromEnum") 1 (codes ">0I")
    ∷ method (codes "enumFrom") 1 (codes ">0[0")
    ∷ method (codes "enumFromThen") 1 (codes ">0>0[0")
    ∷ method (codes "enumFromTo") 1 (codes ">0>0[0")
    ∷ method (codes "enumFromThenTo") 1 (codes ">0>0>0[0")
    ∷ []

abbrev pub bounded_methods : List Method
bounded_methods =
    method (codes "minBound") 1 (codes "0")
    ∷ method (codes "maxBound") 1 (codes "0")
    ∷ []

abbrev pub num_methods : List Method
num_methods =
    operator (codes "+") Left 6 1 (codes ">0>00")
    ∷ operator (codes "-") Left 6 1 (codes ">0>00")
    ∷ operator (codes "*") Left 7 1 (codes ">0>00")
    ∷ method (codes "negate") 1 (codes ">00")
    ∷ method (codes "abs") 1 (codes ">00")
    ∷ method (codes "signum") 1 (codes ">00")
    ∷ method (codes "fromInteger") 1 (codes ">Z0")
    ∷ []

-- `Rational` is `Ratio Integer`
abbrev pub real_methods : List Method
real_methods = method (codes "toRational") 1 (codes ">0@RZ") ∷ []

abbrev pub integral_methods : List Method
integral_methods =
    operator (codes "quot") Left 7 1 (codes ">0>00")
    ∷ operator (codes "rem") Left 7 1 (codes ">0>00")
    ∷ operator (codes "div") Left 7 1 (codes ">0>00")
    ∷ operator (codes "mod") Left 7 1 (codes ">0>00")
    ∷ method (codes "quotRem") 1 (codes ">0>0,00")
    ∷ method (codes "divMod") 1 (codes ">0>0,00")
    ∷ method (codes "toInteger") 1 (codes ">0Z")
    ∷ []

abbrev pub fractional_methods : List Method
fractional_methods =
    operator (codes "/") Left 7 1 (codes ">0>00")
    ∷ method (codes "recip") 1 (codes ">00")
    ∷ method (codes "fromRational") 1 (codes ">@RZ0")
    ∷ []

abbrev pub unary : List ℕ → Method
unary occ = method occ 1 (codes ">00")

abbrev pub floating_methods : List Method
floating_methods =
    method (codes "pi") 1 (codes "0")
    ∷ unary (codes "exp")
    ∷ unary (codes "log")
    ∷ unary (codes "sqrt")
    ∷ unary (codes "sin")
    ∷ unary (codes "cos")
    ∷ unary (codes "tan")
    ∷ unary (codes "asin")
    ∷ unary (codes "acos")
    ∷ unary (codes "atan")
    ∷ unary (codes "sinh")
    ∷ unary (codes "cosh")
    ∷ unary (codes "tanh")
    ∷ unary (codes "asinh")
    ∷ unary (codes "acosh")
    ∷ unary (codes "atanh")
    ∷ operator (codes "**") Right 8 1 (codes ">0>00")
    ∷ method (codes "logBase") 1 (codes ">0>00")
    ∷ []

abbrev pub integral : List Constraint
integral = on (codes "Integral") 1 ∷ []

-- to any integral type
abbrev pub rounding : List ℕ → List ℕ → Method
rounding occ ty = method_in integral None occ 2 ty

abbrev pub real_frac_methods : List Method
real_frac_methods =
    rounding (codes "properFraction") (codes ">0,10")
    ∷ rounding (codes "truncate") (codes ">01")
    ∷ rounding (codes "round") (codes ">01")
    ∷ rounding (codes "ceiling") (codes ">01")
    ∷ rounding (codes "floor") (codes ">01")
    ∷ []

abbrev pub functor_methods : List Method
functor_methods = method (codes "fmap") 3 (codes ">>12>@01@02") ∷ []

abbrev pub monad_methods : List Method
monad_methods =
    operator (codes ">>=") Left 1 3 (codes ">@01>>1@02@02")
    ∷ operator (codes ">>") Left 1 3 (codes ">@01>@02@02")
    ∷ method (codes "return") 2 (codes ">1@01")
    ∷ method (codes "fail") 2 (codes ">[C@01")
    ∷ []

-- `ShowS` is `String -> String`
abbrev pub show_methods : List Method
show_methods =
    method (codes "showsPrec") 1 (codes ">I>0>[C[C")
    ∷ method (codes "show") 1 (codes ">0[C")
    ∷ method (codes "showList") 1 (codes ">[0>[C[C")
    ∷ []

-- `ReadS a` is `String -> [(a, String)]`
abbrev pub read_methods : List Method
read_methods =
    method (codes "readsPrec") 1 (codes ">I>[C[,0[C")
    ∷ method (codes "readList") 1 (codes ">[C[,[0[C")
    ∷ []

-- a class of types, and one of types that are applied to one
abbrev pub class_over : Kind → List ℕ → List Name → List Method → Decl
class_over k occ supers methods = record { name = type_name occ; fixity = None; body = bodies.Class k supers methods }

abbrev pub star : Kind
star = kinds.Star

abbrev pub class : List ℕ → List Name → List Method → Decl
class occ supers methods = class_over star occ supers methods

abbrev pub class_of_constructors : List ℕ → List Method → Decl
class_of_constructors occ methods = class_over (kinds.Arrow kinds.Star kinds.Star) occ [] methods

abbrev pub one_super : List ℕ → List Name
one_super class = type_name class ∷ []

abbrev pub two_supers : List ℕ → List ℕ → List Name
two_supers class other = type_name class ∷ type_name other ∷ []

abbrev pub bounded_class : Decl
bounded_class = class (codes "Bounded") [] bounded_methods

abbrev pub enum_class : Decl
enum_class = class (codes "Enum") [] enum_methods

abbrev pub eq_class : Decl
eq_class = class (codes "Eq") [] eq_methods

abbrev pub floating_class : Decl
floating_class = class (codes "Floating") (one_super (codes "Fractional")) floating_methods

abbrev pub fractional_class : Decl
fractional_class = class (codes "Fractional") (one_super (codes "Num")) fractional_methods

abbrev pub functor_class : Decl
functor_class = class_of_constructors (codes "Functor") functor_methods

abbrev pub integral_class : Decl
integral_class = class (codes "Integral") (two_supers (codes "Real") (codes "Enum")) integral_methods

abbrev pub monad_class : Decl
monad_class = class_of_constructors (codes "Monad") monad_methods

abbrev pub num_class : Decl
num_class = class (codes "Num") [] num_methods

abbrev pub ord_class : Decl
ord_class = class (codes "Ord") (one_super (codes "Eq")) ord_methods

abbrev pub read_class : Decl
read_class = class (codes "Read") [] read_methods

abbrev pub real_class : Decl
real_class = class (codes "Real") (two_supers (codes "Num") (codes "Ord")) real_methods

abbrev pub real_frac_class : Decl
real_frac_class = class (codes "RealFrac") (two_supers (codes "Real") (codes "Fractional")) real_frac_methods

abbrev pub show_class : Decl
show_class = class (codes "Show") [] show_methods
