-- Numbers (Haskell 2010 Report, section 2.5).
use Rattle.std.specs.Prelude.{◌≡◌, ◌≢◌, ℕ, Bool, true, false, ◌==◌, ◌||◌, List, [], ◌∷◌, ◌++◌, Option, MatchOption, if◌then◌else◌}
use Rattle.std.specs.Borrow.{Bor}
use Rattle.source_text.specs.Characters.{characters}
use Rattle.hs_lex.specs.declared.class.Part.{Part}
use Rattle.hs_lex.specs.declared.class.Part.TheVariants as part
use Rattle.hs_lex.specs.declared.number.Base.{Base}
use Rattle.hs_lex.specs.declared.number.Base.TheVariants.{Decimal, Octal, Hexadecimal}
use Rattle.hs_lex.specs.declared.number.Form.{Form}
use Rattle.hs_lex.specs.declared.number.Form.TheVariants.{Integer, Float}
use Rattle.hs_lex.specs.Reading.{AllIn, IsLongest, Nothing}

-- one or more characters of the part
abbrev pub IsMany : Part → List ℕ → Type 0
IsMany p [] = ⊥
IsMany p (c ∷ cs) = AllIn p (c ∷ cs)

-- a text of L, and behind it one of M
abbrev pub Then : (List ℕ → Type 0) → (List ℕ → Type 0) → List ℕ → Type 0
Then L M l = (a b : List ℕ) × (l ≡ a ++ b) × L a × M b

-- decimal: one or more digits
abbrev pub IsDigits : List ℕ → Type 0
IsDigits l = IsMany part.Digit l

-- a point and digits, or nothing
abbrev pub IsFraction : List ℕ → Type 0
IsFraction [] = Unit {0}
IsFraction (c ∷ cs) = (c ≡ 46) × IsDigits cs

abbrev pub is_sign : ℕ → Bool
is_sign c = c == 43 || c == 45

abbrev pub is_e : ℕ → Bool
is_e c = c == 69 || c == 101

abbrev pub unsigned : List ℕ → List ℕ
unsigned [] = []
unsigned (c ∷ cs) = if is_sign c then cs else c ∷ cs

-- an exponent, with or without a sign, or nothing
abbrev pub IsExponent : List ℕ → Type 0
IsExponent [] = Unit {0}
IsExponent (c ∷ cs) = (is_e c ≡ true) × IsDigits (unsigned cs)

-- float: digits with a fraction, an exponent or both
abbrev pub IsFloat : List ℕ → Type 0
IsFloat l = (digits fraction exponent : List ℕ) × (l ≡ digits ++ (fraction ++ exponent)) × IsDigits digits × IsFraction fraction × IsExponent exponent × (fraction ++ exponent ≢ [])

-- decimal or float: a fraction and an exponent may be left out
abbrev pub IsDecimalNumber : List ℕ → Type 0
IsDecimalNumber = Then IsDigits (Then IsFraction IsExponent)

-- the digits of a base
abbrev pub digits_of : Base → Part
digits_of Decimal = part.Digit
digits_of Octal = part.Octal
digits_of Hexadecimal = part.Hexadecimal

-- the letters behind the 0: o O, x X
abbrev pub marks : Base → ℕ → Bool
marks Decimal c = false
marks Octal c = c == 111 || c == 79
marks Hexadecimal c = c == 120 || c == 88

-- 0, a letter of the base, and one or more of its digits
abbrev pub IsMarked : Base → List ℕ → Type 0
IsMarked b l = (mark : ℕ) × (m : List ℕ) × (l ≡ 48 ∷ mark ∷ m) × (marks b mark ≡ true) × IsMany (digits_of b) m

-- decimal | 0o octal | 0O octal | 0x hexadecimal | 0X hexadecimal
abbrev pub IsInteger : Base → List ℕ → Type 0
IsInteger Decimal l = IsDigits l
IsInteger Octal l = IsMarked Octal l
IsInteger Hexadecimal l = IsMarked Hexadecimal l

abbrev pub IsNumberOf : Form → List ℕ → Type 0
IsNumberOf Integer l = (b : Base) × IsInteger b l
IsNumberOf Float l = IsFloat l

abbrev pub IsNumber : List ℕ → Type 0
IsNumber l = (f : Form) × IsNumberOf f l

-- the longest text of L, and of which form it is
abbrev pub ReadsForm : (List ℕ → Type 0) → List ℕ → Option (Form × Bor (List ℕ)) → Type 0
ReadsForm L cs answer = MatchOption answer (Nothing (λ l r. L l) cs) (λ p. (h : IsLongest (λ l r. L l) cs (characters p.1.now)) × IsNumberOf p.0 h.text)
