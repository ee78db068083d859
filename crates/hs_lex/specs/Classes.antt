-- The classes of characters.
use Rattle.std.specs.Prelude.{ℕ, Bool, true, false, not, ◌==◌, ◌||◌, ◌&&◌, nat_lt, if◌then◌else◌}
use Rattle.mk_base.specs.Classes.{class_of as class_of_char}
use Rattle.mk_base.specs.declared.char_class.CharClass.{CharClass}
use Rattle.mk_base.specs.declared.char_class.CharClass.TheVariants as char
use Rattle.hs_lex.specs.declared.class.Class.{Class}
use Rattle.hs_lex.specs.declared.class.Class.TheVariants.{Small, Large, Digit, Symbol, Special, Quote, Tick, White, Other}
use Rattle.hs_lex.specs.declared.class.Part.{Part}
use Rattle.hs_lex.specs.declared.class.Part.TheVariants as part

abbrev pub between : ℕ → ℕ → ℕ → Bool
between low high c = not (nat_lt c low) && not (nat_lt high c)

-- a character of Unicode: not what an ill-formed byte reads as, and no surrogate
abbrev pub is_character : ℕ → Bool
is_character c = nat_lt c 0xd800 || (not (nat_lt c 0xe000) && nat_lt c 0x110000)

-- the general category Control
abbrev pub is_control : ℕ → Bool
is_control c = nat_lt c 32 || between 127 159 c

abbrev pub of_char_class : CharClass → Class
of_char_class char.Small = Small
of_char_class char.Large = Large
of_char_class char.Digit = Digit
of_char_class char.Symbol = Symbol
of_char_class char.Special = Special
of_char_class char.White = White
of_char_class char.Other = Other

unfoldable pub class_of : ℕ → Class
class_of c =
    if c == 34 then Quote
    else if c == 39 then Tick
    else if is_character c then of_char_class (class_of_char c)
    else Other

abbrev pub in_name : Class → Bool
in_name Small = true
in_name Large = true
in_name Digit = true
in_name Tick = true
in_name _ = false

abbrev pub in_symbol : Class → Bool
in_symbol Symbol = true
in_symbol _ = false

abbrev pub in_white : Class → Bool
in_white White = true
in_white _ = false

-- what may stand inside of nested comments: any character but controls that aren't white space
unfoldable pub is_inside : ℕ → Bool
is_inside c = is_character c && (not (is_control c) || in_white (class_of c))

-- the parts that stand in runs
unfoldable pub in_part : Part → ℕ → Bool
in_part part.Name c = in_name (class_of c)
in_part part.Symbol c = in_symbol (class_of c)
in_part part.White c = in_white (class_of c)
in_part part.Digit c = between 48 57 c
in_part part.Octal c = between 48 55 c
in_part part.Hexadecimal c = between 48 57 c || (between 65 70 c || between 97 102 c)
in_part part.Dash c = c == 45
in_part part.Comment c = c == 9 || (is_character c && not (is_control c))
