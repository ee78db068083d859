-- Characters and strings (Haskell 2010 Report, section 2.6).
use Rattle.std.specs.Prelude.{◌≡◌, ◌≢◌, ◌⊎◌, ◌≤◌, ◌+◌, ◌-◌, ◌*◌, ℕ, Bool, true, false, min, ◌==◌, ◌||◌, ◌&&◌, List, [], ◌∷◌, ◌++◌, if◌then◌else◌, codes}
use Rattle.std.specs.List.{flat_map}
use Rattle.hs_lex.specs.declared.class.Class.{Class}
use Rattle.hs_lex.specs.declared.class.Class.TheVariants as class
use Rattle.hs_lex.specs.declared.class.Part.TheVariants as part
use Rattle.hs_lex.specs.declared.number.Base.{Base}
use Rattle.hs_lex.specs.declared.number.Base.TheVariants.{Decimal, Octal, Hexadecimal}
use Rattle.hs_lex.specs.Classes.{class_of, is_character, is_control, between}
use Rattle.hs_lex.specs.Numbers.{IsMany, digits_of}
use Rattle.hs_lex.specs.Reading.{AllIn, Ends, Nothing}

-- the value of a digit
abbrev pub digit_value : ℕ → ℕ
digit_value c =
    if between 48 57 c then c - 48
    else if between 65 70 c then c - 55
    else if between 97 102 c then c - 87
    else 0

abbrev pub times : Base → ℕ → ℕ
times Decimal n = n * 10
times Octal n = n * 8
times Hexadecimal n = n * 16

-- the value of n, written in the base, with further digits behind it
unfoldable pub value_from : Base → ℕ → List ℕ → ℕ
value_from b n [] = n
value_from b n (c ∷ cs) = value_from b (times b n + digit_value c) cs

-- all digits of the base that stand there, of a value that a character has
abbrev pub IsNumeral : Base → List ℕ → List ℕ → Type 0
IsNumeral b l rest = IsMany (digits_of b) l × Ends (digits_of b) rest × (value_from b 0 l ≤ 0x10ffff)

-- the digits that stand there, perhaps none, and their value, where that is one past the limit for all above it
abbrev pub HasValue : Base → List ℕ → List ℕ → ℕ → Type 0
HasValue b cs rest v = (l : List ℕ) × (cs ≡ l ++ rest) × AllIn (digits_of b) l × Ends (digits_of b) rest × (v ≡ min 0x110000 (value_from b 0 l))

-- charesc: a b f n r t v \ " ' &
abbrev pub is_char_escape : ℕ → Bool
is_char_escape c = c == 97 || c == 98 || c == 102 || c == 110 || c == 114 || c == 116 || c == 118 || c == 92 || c == 34 || c == 39 || c == 38

-- cntrl: one of @ A to Z [ \ ] ^ _
abbrev pub IsControl : List ℕ → Type 0
IsControl l = (c : ℕ) × (l ≡ c ∷ []) × (between 64 95 c ≡ true)

-- ascii: the names of the characters, those of two letters and those of three
abbrev pub pairs : List (List ℕ)
pairs = codes "BS" ∷ codes "HT" ∷ codes "LF" ∷ codes "VT" ∷ codes "FF" ∷ codes "CR" ∷ codes "SO" ∷ codes "SI" ∷ codes "EM" ∷ codes "FS" ∷ codes "GS" ∷ codes "RS" ∷ codes "US" ∷ codes "SP" ∷ []

abbrev pub triples : List (List ℕ)
triples =
    codes "NUL" ∷ codes "SOH" ∷ codes "STX" ∷ codes "ETX" ∷ codes "EOT" ∷ codes "ENQ" ∷ codes "ACK" ∷ codes "BEL" ∷ codes "DLE" ∷ codes "DC1" ∷ codes "DC2" ∷ codes "DC3" ∷ codes "DC4" ∷
    codes "NAK" ∷ codes "SYN" ∷ codes "ETB" ∷ codes "CAN" ∷ codes "SUB" ∷ codes "ESC" ∷ codes "DEL" ∷ []

abbrev pub is_two : List ℕ → ℕ → ℕ → Bool
is_two [] a b = false
is_two (x ∷ []) a b = false
is_two (x ∷ y ∷ []) a b = a == x && b == y
is_two (x ∷ y ∷ z ∷ t) a b = false

abbrev pub one_of_two : List (List ℕ) → ℕ → ℕ → Bool
one_of_two [] a b = false
one_of_two (t ∷ []) a b = is_two t a b
one_of_two (t ∷ u ∷ ts) a b = is_two t a b || one_of_two (u ∷ ts) a b

abbrev pub is_three : List ℕ → ℕ → ℕ → ℕ → Bool
is_three [] a b c = false
is_three (x ∷ []) a b c = false
is_three (x ∷ y ∷ []) a b c = false
is_three (x ∷ y ∷ z ∷ []) a b c = a == x && (b == y && c == z)
is_three (x ∷ y ∷ z ∷ w ∷ t) a b c = false

abbrev pub one_of_three : List (List ℕ) → ℕ → ℕ → ℕ → Bool
one_of_three [] a b c = false
one_of_three (t ∷ []) a b c = is_three t a b c
one_of_three (t ∷ u ∷ ts) a b c = is_three t a b c || one_of_three (u ∷ ts) a b c

-- what follows doesn't begin with the character
abbrev pub Differs : ℕ → List ℕ → Type 0
Differs d [] = Unit {0}
Differs d (c ∷ cs) = c ≢ d

-- a name, the longest that stands there: SO is none before H, which makes it SOH
abbrev pub IsAscii : List ℕ → List ℕ → Type 0
IsAscii [] rest = ⊥
IsAscii (a ∷ []) rest = ⊥
IsAscii (a ∷ b ∷ []) rest = (one_of_two pairs a b ≡ true) × (a ≡ 83 → b ≡ 79 → Differs 72 rest)
IsAscii (a ∷ b ∷ c ∷ []) rest = one_of_three triples a b c ≡ true
IsAscii (a ∷ b ∷ c ∷ d ∷ l) rest = ⊥

-- the kinds of escapes
pub data Shape : Type 0 where
  Char : Shape
  Control : Shape
  Ascii : Shape
  InDecimal : Shape
  InOctal : Shape
  InHexadecimal : Shape

-- what stands behind the backslash: c, and behind it l, where rest follows
abbrev pub IsEscapeOf : Shape → ℕ → List ℕ → List ℕ → Type 0
IsEscapeOf Char c l rest = (is_char_escape c ≡ true) × (l ≡ [])
IsEscapeOf Control c l rest = (c ≡ 94) × IsControl l
IsEscapeOf Ascii c l rest = IsAscii (c ∷ l) rest
IsEscapeOf InDecimal c l rest = IsNumeral Decimal (c ∷ l) rest
IsEscapeOf InOctal c l rest = (c ≡ 111) × IsNumeral Octal l rest
IsEscapeOf InHexadecimal c l rest = (c ≡ 120) × IsNumeral Hexadecimal l rest

abbrev pub IsEscape : List ℕ → List ℕ → Type 0
IsEscape l rest = (c : ℕ) × (m : List ℕ) × (l ≡ c ∷ m) × (s : Shape) × IsEscapeOf s c m rest

-- a string: quotes, and between them characters, escapes and gaps
pub data Piece : Type 0 where
  Plain : ℕ → Piece
  Escape : List ℕ → Piece
  Gap : List ℕ → Piece

abbrev pub piece : Piece → List ℕ
piece (Plain c) = c ∷ []
piece (Escape e) = 92 ∷ e
piece (Gap blanks) = 92 ∷ blanks ++ 92 ∷ []

-- a character that is no control character, no quote and no backslash
abbrev pub IsPlain : ℕ → Type 0
IsPlain c = (is_character c ≡ true) × (is_control c ≡ false) × (c ≢ 34) × (c ≢ 92)

abbrev pub IsPiece : Piece → List ℕ → Type 0
IsPiece (Plain c) rest = IsPlain c
IsPiece (Escape e) rest = IsEscape e rest
IsPiece (Gap blanks) rest = IsMany part.White blanks

abbrev pub IsPieceText : List ℕ → List ℕ → Type 0
IsPieceText l rest = (p : Piece) × IsPiece p rest × (l ≡ piece p)

-- the part of a gap behind its first backslash
abbrev pub IsGapTail : List ℕ → Type 0
IsGapTail l = (blanks : List ℕ) × IsMany part.White blanks × (l ≡ blanks ++ 92 ∷ [])

-- pieces in turn, where rest follows the last
abbrev pub ArePieces : List Piece → List ℕ → Type 0
ArePieces [] rest = Unit {0}
ArePieces (p ∷ ps) rest = IsPiece p (flat_map piece ps ++ rest) × ArePieces ps rest

-- as many pieces as stand there
abbrev pub IsPieces : List ℕ → List ℕ → Type 0
IsPieces cs rest = (ps : List Piece) × ArePieces ps rest × (cs ≡ flat_map piece ps ++ rest) × Nothing IsPieceText rest

abbrev pub IsText : List ℕ → Type 0
IsText l = (ps : List Piece) × ArePieces ps (34 ∷ []) × (l ≡ 34 ∷ flat_map piece ps ++ 34 ∷ [])

-- a character: quotes, and between them a graphic character or a space, or an escape that is one character
abbrev pub is_graphic : Class → Bool
is_graphic class.White = false
is_graphic class.Other = false
is_graphic _ = true

abbrev pub IsGraphic : ℕ → Type 0
IsGraphic c = ((is_graphic (class_of c) || c == 32) ≡ true) × (c ≢ 39) × (c ≢ 92)

abbrev pub IsInside : List ℕ → List ℕ → Type 0
IsInside l rest = ((c : ℕ) × (l ≡ c ∷ []) × IsGraphic c) ⊎ ((e : List ℕ) × (l ≡ 92 ∷ e) × IsEscape e rest × (e ≢ 38 ∷ []))

abbrev pub IsChar : List ℕ → Type 0
IsChar l = (m : List ℕ) × (l ≡ 39 ∷ m ++ 39 ∷ []) × IsInside m (39 ∷ [])
