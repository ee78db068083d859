-- The classes of characters (Haskell 2010 Report, section 2.2).
use Rattle.std.specs.Prelude.{ℕ, Bool, not, ◌==◌, ◌||◌, ◌&&◌, nat_lt, if◌then◌else◌}
use Rattle.std.specs.Char.{is_whitespace}
use Rattle.ucd_category.specs.GeneralCategory.{general_category}
use Rattle.ucd_category.specs.declared.GeneralCategory.{GeneralCategory}
use Rattle.ucd_category.specs.declared.GeneralCategory.TheVariants as gc
use Rattle.mk_base.specs.declared.char_class.CharClass.{CharClass}
use Rattle.mk_base.specs.declared.char_class.CharClass.TheVariants.{Small, Large, Digit, Symbol, Special, White, Other}

abbrev pub between : ℕ → ℕ → ℕ → Bool
between low high c = not (nat_lt c low) && not (nat_lt high c)

-- ascSymbol: ! # $ % & * + - . / : < = > ? @ \ ^ | ~
abbrev pub is_ascii_symbol : ℕ → Bool
is_ascii_symbol c = c == 33 || between 35 38 c || between 42 43 c || between 45 47 c || c == 58 || between 60 64 c || c == 92 || c == 94 || c == 124 || c == 126

-- special: ( ) , ; [ ] ` { }
abbrev pub is_special : ℕ → Bool
is_special c = between 40 41 c || c == 44 || c == 59 || c == 91 || c == 93 || c == 96 || c == 123 || c == 125

-- lower case is small, upper and title case are large, decimal digits are digits; punctuation and symbols are symbols
abbrev pub of_category : GeneralCategory → CharClass
of_category gc.LowercaseLetter = Small
of_category gc.UppercaseLetter = Large
of_category gc.TitlecaseLetter = Large
of_category gc.DecimalNumber = Digit
of_category gc.ConnectorPunctuation = Symbol
of_category gc.DashPunctuation = Symbol
of_category gc.OpenPunctuation = Symbol
of_category gc.ClosePunctuation = Symbol
of_category gc.InitialPunctuation = Symbol
of_category gc.FinalPunctuation = Symbol
of_category gc.OtherPunctuation = Symbol
of_category gc.MathSymbol = Symbol
of_category gc.CurrencySymbol = Symbol
of_category gc.ModifierSymbol = Symbol
of_category gc.OtherSymbol = Symbol
of_category _ = Other

-- past ASCII: white space as Unicode has it, and else by the general category
abbrev pub wide_class : ℕ → CharClass
wide_class c = if is_whitespace c then White else of_category (general_category c)

unfoldable pub class_of : ℕ → CharClass
class_of c =
    if between 97 122 c || c == 95 then Small
    else if between 65 90 c then Large
    else if between 48 57 c then Digit
    else if is_ascii_symbol c then Symbol
    else if is_special c then Special
    else if between 9 13 c || c == 32 then White
    else if nat_lt c 128 then Other
    else wide_class c
