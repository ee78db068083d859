-- The languages of lexemes as tests of a text and of what follows it, plain and slow: where a language speaks of parts,
-- each way to part the text is tried.
use Rattle.std.specs.Prelude.{ℕ, zero, suc, Bool, true, false, not, ◌==◌, ◌||◌, ◌&&◌, nat_lt, List, [], ◌∷◌, ◌++◌, length, map, codes}
use Rattle.std.specs.Char.{to_ascii_lowercase}
use Rattle.std.specs.Str.{bytes_eq}
use Rattle.hs_lex.specs.declared.class.Class.{Class}
use Rattle.hs_lex.specs.declared.class.Class.TheVariants as class
use Rattle.hs_lex.specs.declared.class.Part.{Part}
use Rattle.hs_lex.specs.declared.class.Part.TheVariants as part
use Rattle.hs_lex.specs.declared.number.Base.{Base}
use Rattle.hs_lex.specs.declared.number.Base.TheVariants.{Decimal, Octal, Hexadecimal}
use Rattle.hs_lex.specs.declared.item.Kind.{Kind}
use Rattle.hs_lex.specs.declared.item.Kind.TheVariants.{Blank, LineComment, NestedComment, SmallName, LargeName, Operator, Number, Fraction, Quoted, Char, Special}
use Rattle.hs_lex.specs.declared.cursor.Stage.{Stage}
use Rattle.hs_lex.specs.declared.cursor.Stage.TheVariants.{Front, Import, Later}
use Rattle.hs_lex.specs.Classes.{class_of, in_part, between, is_character, is_control}
use Rattle.hs_lex.specs.Words.{is_reserved}
use Rattle.hs_lex.specs.Numbers.{unsigned, is_e, digits_of, marks}
use Rattle.hs_lex.specs.Quoted.{value_from, is_char_escape, pairs, triples, one_of_two, one_of_three, is_graphic, Shape, Char as CharShape, Control, Ascii, InDecimal, InOctal, InHexadecimal}
use Rattle.hs_lex.specs.Lexemes.{closes, is_nil}
use Rattle.hs_lex.specs.Items.{is_lexeme}

-- whether the text is one of the first test with one of the second behind it, in some way
unfoldable pub in_two : (List ℕ → List ℕ → Bool) → List ℕ → Bool
in_two f [] = f [] []
in_two f (c ∷ cs) = f [] (c ∷ cs) || in_two (λ a b. f (c ∷ a) b) cs

-- runs
abbrev pub rank : Class → ℕ
rank class.Small = 0
rank class.Large = 1
rank class.Digit = 2
rank class.Symbol = 3
rank class.Special = 4
rank class.Quote = 5
rank class.Tick = 6
rank class.White = 7
rank class.Other = 8

abbrev pub is_of : Class → ℕ → Bool
is_of k c = rank (class_of c) == rank k

abbrev pub all_in : Part → List ℕ → Bool
all_in p [] = true
all_in p (c ∷ cs) = in_part p c && all_in p cs

abbrev pub ends : Part → List ℕ → Bool
ends p [] = true
ends p (c ∷ cs) = not (in_part p c)

abbrev pub is_whole : Part → List ℕ → List ℕ → Bool
is_whole p l rest = all_in p l && ends p rest

abbrev pub is_many : Part → List ℕ → Bool
is_many p [] = false
is_many p (c ∷ cs) = all_in p (c ∷ cs)

abbrev pub begins_as : Class → List ℕ → Bool
begins_as k [] = false
begins_as k (c ∷ cs) = is_of k c

abbrev pub is_one : Class → List ℕ → Bool
is_one k [] = false
is_one k (c ∷ []) = is_of k c
is_one k (c ∷ d ∷ cs) = false

-- names, operators, special characters and comments
abbrev pub is_name : Class → List ℕ → List ℕ → Bool
is_name k l rest = begins_as k l && is_whole part.Name l rest

abbrev pub is_dashes : List ℕ → Bool
is_dashes l = all_in part.Dash l && nat_lt 1 (length l)

abbrev pub is_operator : List ℕ → List ℕ → Bool
is_operator l rest = begins_as class.Symbol l && (is_whole part.Symbol l rest && not (is_dashes l))

abbrev pub ends_line : List ℕ → Bool
ends_line [] = true
ends_line (c ∷ cs) = c == 10 || (c == 12 || c == 13)

abbrev pub is_comment_line : List ℕ → List ℕ → List ℕ → Bool
is_comment_line rest dashes line = (is_dashes dashes && ends part.Symbol (line ++ rest)) && (all_in part.Comment line && ends_line rest)

abbrev pub is_line_comment : List ℕ → List ℕ → Bool
is_line_comment l rest = in_two (is_comment_line rest) l

abbrev pub is_nested_comment : List ℕ → Bool
is_nested_comment [] = false
is_nested_comment (a ∷ []) = false
is_nested_comment (a ∷ b ∷ cs) = a == 123 && (b == 45 && closes 1 cs)

abbrev pub is_special : List ℕ → List ℕ → Bool
is_special l rest = is_one class.Special l && (not (bytes_eq l (123 ∷ [])) || ends part.Dash rest)

abbrev pub is_plain : List ℕ → List ℕ → Bool
is_plain l rest = (is_name class.Small l rest || is_operator l rest) && not (is_reserved l)

-- n bounds the number of parts
unfoldable pub is_tail : ℕ → List ℕ → List ℕ → Bool
is_tail zero l rest = false
is_tail (suc n) [] rest = true
is_tail (suc n) (c ∷ l) rest = c == 46 && (is_plain l rest || in_two (λ q m. is_name class.Large q (m ++ rest) && is_tail n m rest) l)

abbrev pub is_any_tail : List ℕ → List ℕ → Bool
is_any_tail l rest = is_tail (suc (length l)) l rest

abbrev pub is_large_name : List ℕ → List ℕ → Bool
is_large_name l rest = in_two (λ q m. is_name class.Large q (m ++ rest) && is_any_tail m rest) l

-- numbers
abbrev pub is_fraction : List ℕ → Bool
is_fraction [] = true
is_fraction (c ∷ cs) = c == 46 && is_many part.Digit cs

abbrev pub is_exponent : List ℕ → Bool
is_exponent [] = true
is_exponent (c ∷ cs) = is_e c && is_many part.Digit (unsigned cs)

abbrev pub is_behind_digits : List ℕ → List ℕ → Bool
is_behind_digits fraction exponent = (is_fraction fraction && is_exponent exponent) && not (is_nil (fraction ++ exponent))

abbrev pub is_float : List ℕ → Bool
is_float l = in_two (λ digits m. is_many part.Digit digits && in_two is_behind_digits m) l

abbrev pub is_in_base : Base → List ℕ → Bool
is_in_base b [] = false
is_in_base b (c ∷ []) = false
is_in_base b (c ∷ mark ∷ m) = c == 48 && (marks b mark && is_many (digits_of b) m)

abbrev pub is_integer : List ℕ → Bool
is_integer l = is_many part.Digit l || (is_in_base Octal l || is_in_base Hexadecimal l)

-- escapes
abbrev pub is_numeral : Base → List ℕ → List ℕ → Bool
is_numeral b l rest = is_whole (digits_of b) l rest && (not (is_nil l) && not (nat_lt 0x10ffff (value_from b 0 l)))

abbrev pub is_control_escape : List ℕ → Bool
is_control_escape [] = false
is_control_escape (c ∷ []) = between 64 95 c
is_control_escape (c ∷ d ∷ l) = false

abbrev pub differs : ℕ → List ℕ → Bool
differs d [] = true
differs d (c ∷ cs) = not (c == d)

abbrev pub is_ascii_name : List ℕ → List ℕ → Bool
is_ascii_name [] rest = false
is_ascii_name (a ∷ []) rest = false
is_ascii_name (a ∷ b ∷ []) rest = one_of_two pairs a b && (not (a == 83) || (not (b == 79) || differs 72 rest))
is_ascii_name (a ∷ b ∷ c ∷ []) rest = one_of_three triples a b c
is_ascii_name (a ∷ b ∷ c ∷ d ∷ l) rest = false

abbrev pub is_escape_of : Shape → ℕ → List ℕ → List ℕ → Bool
is_escape_of CharShape c l rest = is_char_escape c && is_nil l
is_escape_of Control c l rest = c == 94 && is_control_escape l
is_escape_of Ascii c l rest = is_ascii_name (c ∷ l) rest
is_escape_of InDecimal c l rest = is_numeral Decimal (c ∷ l) rest
is_escape_of InOctal c l rest = c == 111 && is_numeral Octal l rest
is_escape_of InHexadecimal c l rest = c == 120 && is_numeral Hexadecimal l rest

abbrev pub is_any_escape : ℕ → List ℕ → List ℕ → Bool
is_any_escape c l rest =
    is_escape_of CharShape c l rest
    || (is_escape_of Control c l rest
    || (is_escape_of Ascii c l rest || (is_escape_of InDecimal c l rest || (is_escape_of InOctal c l rest || is_escape_of InHexadecimal c l rest))))

unfoldable pub is_escape : List ℕ → List ℕ → Bool
is_escape [] rest = false
is_escape (c ∷ l) rest = is_any_escape c l rest

-- strings and characters
abbrev pub is_plain_character : ℕ → Bool
is_plain_character c = (is_character c && not (is_control c)) && (not (c == 34) && not (c == 92))

abbrev pub is_gap_tail : List ℕ → List ℕ → Bool
is_gap_tail blanks end = is_many part.White blanks && bytes_eq end (92 ∷ [])

abbrev pub is_piece : List ℕ → List ℕ → Bool
is_piece [] rest = false
is_piece (c ∷ l) rest = (is_nil l && is_plain_character c) || (c == 92 && (is_escape l rest || in_two is_gap_tail l))

-- n bounds the number of pieces
unfoldable pub are_pieces : ℕ → List ℕ → List ℕ → Bool
are_pieces zero l rest = false
are_pieces (suc n) [] rest = true
are_pieces (suc n) (c ∷ l) rest = in_two (λ a b. is_piece (c ∷ a) (b ++ rest) && are_pieces n b rest) l

abbrev pub is_text : List ℕ → Bool
is_text [] = false
is_text (c ∷ l) = c == 34 && in_two (λ m end. are_pieces (suc (length m)) m (34 ∷ []) && bytes_eq end (34 ∷ [])) l

abbrev pub is_in_quotes : List ℕ → List ℕ → Bool
is_in_quotes [] rest = false
is_in_quotes (c ∷ l) rest =
    (is_nil l && ((is_graphic (class_of c) || c == 32) && (not (c == 39) && not (c == 92))))
    || (c == 92 && (is_escape l rest && not (bytes_eq l (38 ∷ []))))

abbrev pub is_char : List ℕ → Bool
is_char [] = false
is_char (c ∷ l) = c == 39 && in_two (λ m end. is_in_quotes m (39 ∷ []) && bytes_eq end (39 ∷ [])) l

-- whether the text is of the kind where rest follows
abbrev pub is : Kind → List ℕ → List ℕ → Bool
is Blank l rest = is_one class.White l
is LineComment l rest = is_line_comment l rest
is NestedComment l rest = is_nested_comment l
is SmallName l rest = is_name class.Small l rest
is LargeName l rest = is_large_name l rest
is Operator l rest = is_operator l rest
is Number l rest = is_integer l
is Fraction l rest = is_float l
is Quoted l rest = is_text l
is Char l rest = is_char l
is Special l rest = is_special l rest

-- pragmas
abbrev pub is_keyword : List ℕ → List ℕ → Bool
is_keyword word l = bytes_eq (map to_ascii_lowercase l) word

abbrev pub is_identifier : List ℕ → Bool
is_identifier l = (begins_as class.Small l || begins_as class.Large l) && all_in part.Name l

abbrev pub is_gap : List ℕ → Bool
is_gap l = begins_as class.White l && all_in part.White l

-- white space in front of what holds
abbrev pub behind_white : (List ℕ → Bool) → List ℕ → Bool
behind_white f l = in_two (λ v m. all_in part.White v && f m) l

abbrev pub behind_comma : (List ℕ → Bool) → List ℕ → Bool
behind_comma f [] = false
behind_comma f (c ∷ l) = c == 44 && f l

abbrev pub is_close : List ℕ → Bool
is_close l = bytes_eq l (codes "#-}")

-- n bounds the number of further names
unfoldable pub is_list : ℕ → List ℕ → Bool
is_list zero l = false
is_list (suc n) l = behind_white is_close l || behind_white (behind_comma (behind_white (in_two (λ name m. is_identifier name && is_list n m)))) l

abbrev pub is_names : List ℕ → Bool
is_names l = in_two (λ n m. is_identifier n && is_list (suc (length m)) m) l

abbrev pub behind_opening : (List ℕ → Bool) → List ℕ → Bool
behind_opening f l = in_two (λ sign m. bytes_eq sign (codes "{-#") && behind_white f m) l

unfoldable pub is_language : List ℕ → Bool
is_language l = behind_opening (in_two (λ k m. is_keyword (codes "language") k && in_two (λ w n. is_gap w && is_names n) m)) l

unfoldable pub is_source : List ℕ → Bool
is_source l = behind_opening (in_two (λ k m. is_keyword (codes "source") k && behind_white is_close m)) l

abbrev pub is_pragma : Stage → List ℕ → Bool
is_pragma Front l = is_language l
is_pragma Import l = is_source l
is_pragma Later l = false

abbrev pub is_token : Stage → Kind → List ℕ → Bool
is_token s NestedComment l = is_pragma s l
is_token s k l = is_lexeme k
