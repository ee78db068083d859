-- The instances of `Prim`, by class and then by type.
use Rattle.std.specs.Prelude.{ℕ, zero, suc, ◌+◌, List, [], ◌∷◌, ◌++◌, codes}
use Rattle.face_model.specs.declared.scheme.Constraint.{Constraint}
use Rattle.face_model.specs.declared.inst.Inst.{Inst}
use Rattle.prim_table.specs.Spelled.{◌⊳◌, on, type_name}
use Rattle.prim_table.specs.Types.{tuple_name}

abbrev pub inst : List ℕ → List ℕ → ℕ → List Constraint → Inst
inst class head vars context = record { class = type_name class; head = type_name head; vars = vars; context = context }

abbrev pub plain : List ℕ → List ℕ → Inst
plain class head = inst class head 0 []

-- the class on each of so many variables
unfoldable pub each : List ℕ → ℕ → List Constraint
each class zero = []
each class (suc n) = each class n ++ on class n ∷ []

-- tuples of one more part than commas
abbrev pub at_tuple : List ℕ → ℕ → Inst
at_tuple class n = inst class (tuple_name n) (n + 1) (each class (n + 1))

unfoldable pub at_tuples : List ℕ → ℕ → List Inst → List Inst
at_tuples class zero out = out
at_tuples class (suc n) out = at_tuples class n out ⊳ at_tuple class (suc n)

-- a ratio is of an integral type
abbrev pub integral : List Constraint
integral = on (codes "Integral") 0 ∷ []

abbrev pub at_ratio : List ℕ → List Constraint → Inst
at_ratio class context = inst class (codes "Ratio") 1 context

abbrev pub at_lists : List ℕ → Inst
at_lists class = inst class (codes "[]") 1 (on class 0 ∷ [])

-- Each of these is put behind what stands in front of it.

abbrev pub basic : List ℕ → List Inst → List Inst
basic class out =
    out
    ⊳ plain class (codes "Bool")
    ⊳ plain class (codes "Char")
    ⊳ plain class (codes "Double")
    ⊳ plain class (codes "Float")
    ⊳ plain class (codes "Int")
    ⊳ plain class (codes "Integer")
    ⊳ plain class (codes "Ordering")

-- of the unit type, tuples of 2 to 15 parts, the basic types, ratios under a context, and lists
abbrev pub general : List ℕ → List Constraint → List Inst → List Inst
general class context out = basic class (at_tuples class 14 (out ⊳ plain class (codes "()"))) ⊳ at_ratio class context ⊳ at_lists class

-- compared
abbrev pub compared : List ℕ → List Inst → List Inst
compared class out = general class integral out

-- shown or read, which a ratio is where its parts are
abbrev pub printed : List ℕ → List Inst → List Inst
printed class out = general class (integral ++ on class 0 ∷ []) out

abbrev pub bounded : List Inst → List Inst
bounded out =
    at_tuples (codes "Bounded") 14 (out ⊳ plain (codes "Bounded") (codes "()"))
    ⊳ plain (codes "Bounded") (codes "Bool")
    ⊳ plain (codes "Bounded") (codes "Char")
    ⊳ plain (codes "Bounded") (codes "Int")
    ⊳ plain (codes "Bounded") (codes "Ordering")

abbrev pub enumerated : List Inst → List Inst
enumerated out = basic (codes "Enum") (out ⊳ plain (codes "Enum") (codes "()")) ⊳ at_ratio (codes "Enum") integral

abbrev pub floating : List ℕ → List Inst → List Inst
floating class out = out ⊳ plain class (codes "Double") ⊳ plain class (codes "Float")

abbrev pub fractional : List ℕ → List Inst → List Inst
fractional class out = floating class out ⊳ at_ratio class integral

abbrev pub integers : List ℕ → List Inst → List Inst
integers class out = out ⊳ plain class (codes "Int") ⊳ plain class (codes "Integer")

abbrev pub numeric : List ℕ → List Inst → List Inst
numeric class out = integers class (floating class out) ⊳ at_ratio class integral

-- actions and lists
abbrev pub constructors : List ℕ → List Inst → List Inst
constructors class out = out ⊳ plain class (codes "IO") ⊳ plain class (codes "[]")

-- up to those of `Integral`
abbrev pub first_insts : List Inst
first_insts =
    integers (codes "Integral")
    (constructors (codes "Functor")
    (fractional (codes "Fractional")
    (floating (codes "Floating")
    (compared (codes "Eq")
    (enumerated
    (bounded []))))))

-- up to those of `Ord`
abbrev pub second_insts : List Inst → List Inst
second_insts out = compared (codes "Ord") (numeric (codes "Num") (constructors (codes "Monad") out))

-- up to those of `Real`
abbrev pub third_insts : List Inst → List Inst
third_insts out = numeric (codes "Real") (printed (codes "Read") out)

abbrev pub fourth_insts : List Inst → List Inst
fourth_insts out = printed (codes "Show") (fractional (codes "RealFrac") out)

abbrev pub insts : List Inst
insts = fourth_insts (third_insts (second_insts first_insts))
