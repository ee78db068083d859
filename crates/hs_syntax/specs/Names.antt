-- Names as they stand in a tree (Haskell 2010 Report, section 2.4).
use Rattle.std.specs.Prelude.{ℕ, Bool, true, false, not, ◌||◌, ◌&&◌, nat_eq, nat_lt, List, [], ◌∷◌, ◌++◌, None, if◌then◌else◌}
use Rattle.mk_base.specs.Classes.{class_of}
use Rattle.mk_base.specs.declared.char_class.CharClass.{CharClass}
use Rattle.mk_base.specs.declared.char_class.CharClass.TheVariants as class
use Rattle.source_text.specs.Characters.{characters}
use Rattle.hs_syntax.specs.declared.name_ref.NameRef.{NameRef}
use Rattle.hs_syntax.specs.declared.token.Token.{Token}

-- the pieces between dots
abbrev pub onto : ℕ → List (List ℕ) → List (List ℕ)
onto b [] = (b ∷ []) ∷ []
onto b (p ∷ ps) = (b ∷ p) ∷ ps

unfoldable pub between_dots : List ℕ → List (List ℕ)
between_dots [] = [] ∷ []
between_dots (b ∷ bs) = if nat_eq b 46 then [] ∷ between_dots bs else onto b (between_dots bs)

-- pieces with dots between them
abbrev pub dotted : List (List ℕ) → List ℕ
dotted [] = []
dotted (p ∷ []) = p
dotted (p ∷ ps) = p ++ 46 ∷ dotted ps

abbrev pub in_large : CharClass → Bool
in_large class.Large = true
in_large _ = false

-- a character of Unicode: not what an ill-formed byte reads as, and no surrogate
abbrev pub is_character : ℕ → Bool
is_character c = nat_lt c 0xd800 || (not (nat_lt c 0xe000) && nat_lt c 0x110000)

-- whether a code is that of a large character
unfoldable pub is_large : ℕ → Bool
is_large c = if is_character c then in_large (class_of c) else false

-- whether the first character of a text is a large one
abbrev pub first_is_large : List ℕ → Bool
first_is_large [] = false
first_is_large (c ∷ cs) = is_large c

abbrev pub begins_large : List ℕ → Bool
begins_large text = first_is_large (characters text)

-- The qualifier: the pieces from the front that begin large and behind which another piece stands.
abbrev pub qualifier_of : List (List ℕ) → List (List ℕ)
qualifier_of [] = []
qualifier_of (p ∷ []) = []
qualifier_of (p ∷ ps) = if begins_large p then p ∷ qualifier_of ps else []

-- and the name behind it
abbrev pub name_of : List (List ℕ) → List (List ℕ)
name_of [] = []
name_of (p ∷ []) = p ∷ []
name_of (p ∷ ps) = if begins_large p then name_of ps else p ∷ ps

-- A lexeme parted into qualifier and name: `A.B.c` is `c` of `A.B`, and `A..` is `.` of `A`.
unfoldable pub name_ref : Token → NameRef
name_ref t = record { qualifier = dotted (qualifier_of (between_dots t.text)); text = dotted (name_of (between_dots t.text)); at = t.at; to = None }

-- A module's name has all its dots and no qualifier.
abbrev pub module_ref : Token → NameRef
module_ref t = record { qualifier = []; text = t.text; at = t.at; to = None }
