-- What `Prim` exports: its values, constructors, types and classes by name. Names of special syntax are always there, and
-- not exported. Each part is put behind what stands in front of it.
use Rattle.std.specs.Prelude.{ℕ, List, [], Some, None, codes}
use Rattle.mk_base.specs.declared.name.Space.{Space}
use Rattle.mk_base.specs.declared.name.Space.TheVariants as spaces
use Rattle.face_model.specs.declared.export.Export.{Export}
use Rattle.prim_table.specs.Spelled.{◌⊳◌, own, type_name}

abbrev pub alone : Space → List ℕ → Export
alone s occ = record { name = own s occ; parent = None }

abbrev pub of : Space → List ℕ → List ℕ → Export
of s occ parent = record { name = own s occ; parent = Some (type_name parent) }

abbrev pub value : List ℕ → Export
value occ = alone spaces.Var occ

abbrev pub method : List ℕ → List ℕ → Export
method occ class = of spaces.Var occ class

abbrev pub constructor : List ℕ → List ℕ → Export
constructor occ type = of spaces.Con occ type

abbrev pub named : List ℕ → Export
named occ = alone spaces.Ty occ

abbrev pub first_values : List Export → List Export
first_values out =
    out
    ⊳ method (codes "*") (codes "Num")
    ⊳ method (codes "**") (codes "Floating")
    ⊳ method (codes "+") (codes "Num")
    ⊳ method (codes "-") (codes "Num")
    ⊳ method (codes "/") (codes "Fractional")

abbrev pub second_values : List Export → List Export
second_values out =
    out
    ⊳ method (codes "/=") (codes "Eq")
    ⊳ method (codes "<") (codes "Ord")
    ⊳ method (codes "<=") (codes "Ord")
    ⊳ method (codes "==") (codes "Eq")
    ⊳ method (codes ">") (codes "Ord")

abbrev pub third_values : List Export → List Export
third_values out =
    out
    ⊳ method (codes ">=") (codes "Ord")
    ⊳ method (codes ">>") (codes "Monad")
    ⊳ method (codes ">>=") (codes "Monad")
    ⊳ method (codes "abs") (codes "Num")
    ⊳ method (codes "acos") (codes "Floating")

abbrev pub fourth_values : List Export → List Export
fourth_values out =
    out
    ⊳ method (codes "acosh") (codes "Floating")
    ⊳ value (codes "appendFile")
    ⊳ method (codes "asin") (codes "Floating")
    ⊳ method (codes "asinh") (codes "Floating")
    ⊳ method (codes "atan") (codes "Floating")

abbrev pub compare_and_cosines : List Export → List Export
compare_and_cosines out =
    out
    ⊳ method (codes "compare") (codes "Ord")
    ⊳ method (codes "cos") (codes "Floating")
    ⊳ method (codes "cosh") (codes "Floating")

abbrev pub fifth_values : List Export → List Export
fifth_values out = compare_and_cosines (out ⊳ method (codes "atanh") (codes "Floating") ⊳ method (codes "ceiling") (codes "RealFrac"))

abbrev pub sixth_values : List Export → List Export
sixth_values out =
    out
    ⊳ method (codes "div") (codes "Integral")
    ⊳ method (codes "divMod") (codes "Integral")
    ⊳ method (codes "enumFrom") (codes "Enum")
    ⊳ method (codes "enumFromThen") (codes "Enum")
    ⊳ method (codes "enumFromThenTo") (codes "Enum")

abbrev pub seventh_values : List Export → List Export
seventh_values out =
    out
    ⊳ method (codes "enumFromTo") (codes "Enum")
    ⊳ value (codes "error")
    ⊳ method (codes "exp") (codes "Floating")
    ⊳ method (codes "fail") (codes "Monad")
    ⊳ method (codes "floor") (codes "RealFrac")

abbrev pub eighth_values : List Export → List Export
eighth_values out =
    out
    ⊳ method (codes "fmap") (codes "Functor")
    ⊳ method (codes "fromEnum") (codes "Enum")
    ⊳ method (codes "fromInteger") (codes "Num")
    ⊳ method (codes "fromRational") (codes "Fractional")
    ⊳ value (codes "getChar")

abbrev pub ninth_values : List Export → List Export
ninth_values out =
    out
    ⊳ value (codes "getContents")
    ⊳ value (codes "getLine")
    ⊳ method (codes "log") (codes "Floating")
    ⊳ method (codes "logBase") (codes "Floating")
    ⊳ method (codes "max") (codes "Ord")

abbrev pub tenth_values : List Export → List Export
tenth_values out =
    out
    ⊳ method (codes "maxBound") (codes "Bounded")
    ⊳ method (codes "min") (codes "Ord")
    ⊳ method (codes "minBound") (codes "Bounded")
    ⊳ method (codes "mod") (codes "Integral")
    ⊳ method (codes "negate") (codes "Num")

abbrev pub eleventh_values : List Export → List Export
eleventh_values out =
    out
    ⊳ method (codes "pi") (codes "Floating")
    ⊳ method (codes "pred") (codes "Enum")
    ⊳ method (codes "properFraction") (codes "RealFrac")
    ⊳ value (codes "putChar")
    ⊳ value (codes "putStr")

abbrev pub twelfth_values : List Export → List Export
twelfth_values out =
    out
    ⊳ method (codes "quot") (codes "Integral")
    ⊳ method (codes "quotRem") (codes "Integral")
    ⊳ value (codes "readFile")
    ⊳ method (codes "readList") (codes "Read")
    ⊳ method (codes "readsPrec") (codes "Read")

abbrev pub thirteenth_values : List Export → List Export
thirteenth_values out =
    out
    ⊳ method (codes "recip") (codes "Fractional")
    ⊳ method (codes "rem") (codes "Integral")
    ⊳ method (codes "return") (codes "Monad")
    ⊳ method (codes "round") (codes "RealFrac")
    ⊳ value (codes "seq")

abbrev pub fourteenth_values : List Export → List Export
fourteenth_values out =
    out
    ⊳ method (codes "show") (codes "Show")
    ⊳ method (codes "showList") (codes "Show")
    ⊳ method (codes "showsPrec") (codes "Show")
    ⊳ method (codes "signum") (codes "Num")
    ⊳ method (codes "sin") (codes "Floating")

abbrev pub fifteenth_values : List Export → List Export
fifteenth_values out =
    out
    ⊳ method (codes "sinh") (codes "Floating")
    ⊳ method (codes "sqrt") (codes "Floating")
    ⊳ method (codes "succ") (codes "Enum")
    ⊳ method (codes "tan") (codes "Floating")
    ⊳ method (codes "tanh") (codes "Floating")

abbrev pub sixteenth_values : List Export → List Export
sixteenth_values out =
    out
    ⊳ method (codes "toEnum") (codes "Enum")
    ⊳ method (codes "toInteger") (codes "Integral")
    ⊳ method (codes "toRational") (codes "Real")
    ⊳ method (codes "truncate") (codes "RealFrac")
    ⊳ value (codes "writeFile")

abbrev pub first_ten : List Export → List Export
first_ten out = second_values (first_values out)

abbrev pub second_ten : List Export → List Export
second_ten out = fourth_values (third_values out)

abbrev pub third_ten : List Export → List Export
third_ten out = sixth_values (fifth_values out)

abbrev pub fourth_ten : List Export → List Export
fourth_ten out = eighth_values (seventh_values out)

abbrev pub fifth_ten : List Export → List Export
fifth_ten out = tenth_values (ninth_values out)

abbrev pub sixth_ten : List Export → List Export
sixth_ten out = twelfth_values (eleventh_values out)

abbrev pub seventh_ten : List Export → List Export
seventh_ten out = fourteenth_values (thirteenth_values out)

abbrev pub eighth_ten : List Export → List Export
eighth_ten out = sixteenth_values (fifteenth_values out)

abbrev pub first_twenty : List Export → List Export
first_twenty out = second_ten (first_ten out)

abbrev pub second_twenty : List Export → List Export
second_twenty out = fourth_ten (third_ten out)

abbrev pub third_twenty : List Export → List Export
third_twenty out = sixth_ten (fifth_ten out)

abbrev pub fourth_twenty : List Export → List Export
fourth_twenty out = eighth_ten (seventh_ten out)

-- up to `getChar`
abbrev pub lower_values : List Export → List Export
lower_values out = second_twenty (first_twenty out)

-- from `getContents` on
abbrev pub upper_values : List Export → List Export
upper_values out = fourth_twenty (third_twenty out)

abbrev pub values : List Export → List Export
values out = upper_values (lower_values out)

abbrev pub constructors : List Export → List Export
constructors out =
    out
    ⊳ constructor (codes "EQ") (codes "Ordering")
    ⊳ constructor (codes "False") (codes "Bool")
    ⊳ constructor (codes "GT") (codes "Ordering")
    ⊳ constructor (codes "LT") (codes "Ordering")
    ⊳ constructor (codes "True") (codes "Bool")

abbrev pub first_types : List Export → List Export
first_types out =
    out
    ⊳ named (codes "Bool")
    ⊳ named (codes "Bounded")
    ⊳ named (codes "Char")
    ⊳ named (codes "Double")
    ⊳ named (codes "Enum")

abbrev pub second_types : List Export → List Export
second_types out =
    out
    ⊳ named (codes "Eq")
    ⊳ named (codes "Float")
    ⊳ named (codes "Floating")
    ⊳ named (codes "Fractional")

abbrev pub third_types : List Export → List Export
third_types out =
    out
    ⊳ named (codes "Functor")
    ⊳ named (codes "IO")
    ⊳ named (codes "Int")
    ⊳ named (codes "Integer")
    ⊳ named (codes "Integral")

abbrev pub fourth_types : List Export → List Export
fourth_types out =
    out
    ⊳ named (codes "Monad")
    ⊳ named (codes "Num")
    ⊳ named (codes "Ord")
    ⊳ named (codes "Ordering")

abbrev pub fifth_types : List Export → List Export
fifth_types out =
    out
    ⊳ named (codes "Ratio")
    ⊳ named (codes "Rational")
    ⊳ named (codes "Read")
    ⊳ named (codes "ReadS")
    ⊳ named (codes "Real")

abbrev pub sixth_types : List Export → List Export
sixth_types out =
    out
    ⊳ named (codes "RealFrac")
    ⊳ named (codes "Show")
    ⊳ named (codes "ShowS")
    ⊳ named (codes "String")

abbrev pub lower_types : List Export → List Export
lower_types out = second_types (first_types out)

abbrev pub middle_types : List Export → List Export
middle_types out = fourth_types (third_types out)

abbrev pub upper_types : List Export → List Export
upper_types out = sixth_types (fifth_types out)

abbrev pub lower_half : List Export → List Export
lower_half out = middle_types (lower_types out)

abbrev pub types : List Export → List Export
types out = upper_types (lower_half out)

abbrev pub constructors_and_types : List Export → List Export
constructors_and_types out = types (constructors out)

abbrev pub exports : List Export
exports = constructors_and_types (values [])
