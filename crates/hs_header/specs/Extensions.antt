-- Pragmas for LANGUAGE: which extensions they name, and what these say.
use Rattle.std.specs.Prelude.{◌≡◌, ℕ, true, false, List, [], ◌∷◌, ◌++◌, map, Option, Some, None, Result, Ok, Err, codes, encode_utf8_all, if◌then◌else◌}
use Rattle.std.specs.Str.{bytes_eq}
use Rattle.mk_base.specs.declared.place.Pos.{Pos}
use Rattle.source_text.specs.Characters.{characters}
use Rattle.source_text.specs.Places.{step}
use Rattle.source_text.specs.declared.place.Place.{Place}
use Rattle.hs_syntax.specs.declared.token.Token.{Token}
use Rattle.hs_lex.specs.declared.class.Part.TheVariants as part
use Rattle.hs_lex.specs.Classes.{in_part}
use Rattle.hs_lex.specs.Reading.{AllIn}
use Rattle.hs_lex.specs.Pragmas.{IsKeyword, IsGap, IsIdentifier, IsList, IsLanguage}
use Rattle.hs_lex.specs.Tokens.{position}
use Rattle.hs_header.specs.declared.extension.Flags.{Flags}
use Rattle.hs_header.specs.declared.header_err.HeaderErr.{HeaderErr}
use Rattle.hs_header.specs.declared.header_err.HeaderErr.TheVariants.{Lexeme, Grammar, Extension, NoMemory}

-- a word: the place of its first character, and its bytes
abbrev pub Word : Type 0
Word = Pos × List ℕ

-- a run that is open: where it began, and its characters
abbrev pub Run : Type 0
Run = Place × List ℕ

abbrev pub opened : Option Run → Place → ℕ → Run
opened None p c = (p, c ∷ [])
opened (Some r) p c = (r.0, r.1 ++ c ∷ [])

abbrev pub closed : Option Run → List Word → List Word
closed None ws = ws
closed (Some r) ws = (position r.0, encode_utf8_all r.1) ∷ ws

-- The words of some characters, which begin at a place: the maximal runs of name characters (small, large, digits and
-- quotes). A run may be open already.
unfoldable pub words : Option Run → Place → List ℕ → List Word
words r p [] = closed r []
words r p (c ∷ cs) = if in_part part.Name c then words (Some (opened r p c)) (step p c) cs else closed r (words None (step p c) cs)

-- the words behind the keyword, which is the first one
abbrev pub behind_keyword : List Word → List Word
behind_keyword [] = []
behind_keyword (w ∷ ws) = ws

-- what an extension says; None for one that isn't known
unfoldable pub with_word : Flags → List ℕ → Option Flags
with_word f w =
    if bytes_eq w (codes "ImplicitPrelude") then Some (record f { prelude = Some true })
    else if bytes_eq w (codes "NoImplicitPrelude") then Some (record f { prelude = Some false })
    else if bytes_eq w (codes "MonomorphismRestriction") then Some (record f { restrict = Some true })
    else if bytes_eq w (codes "NoMonomorphismRestriction") then Some (record f { restrict = Some false })
    else if bytes_eq w (codes "Haskell2010") then Some f
    else None

-- what words say in turn, or the first one that isn't known
abbrev pub going_on : Option Flags → Word → (Flags → Result Flags Word) → Result Flags Word
going_on None w on = Err w
going_on (Some f) w on = on f

abbrev pub with_words : Flags → List Word → Result Flags Word
with_words f [] = Ok f
with_words f (w ∷ ws) = going_on (with_word f w.1) w (λ g. with_words g ws)

-- a pragma begins with a brace, and so not with a line feed that is one newline with what stands before it
abbrev pub place_of : Token → Place
place_of t = record { line = t.at.line; column = t.at.col; after_return = false }

-- the flags behind a pragma for LANGUAGE, or the first extension in it that isn't known
unfoldable pub flags_of : Flags → Token → Result Flags Word
flags_of f t = with_words f (behind_keyword (words None (place_of t) (characters t.text)))

-- the error tells the word that isn't known
abbrev pub IsUnknown : Result Flags Word → HeaderErr → Type 0
IsUnknown r (Extension at name) = r ≡ Err (at, name)
IsUnknown r NoMemory = Unit {0}
IsUnknown r (Lexeme at) = ⊥
IsUnknown r (Grammar at) = ⊥

-- The lexer's pragma for LANGUAGE, with its names.
abbrev pub IsNaming : List (List ℕ) → List ℕ → Type 0
IsNaming [] l = ⊥
IsNaming (n ∷ ns) l = (v k w m : List ℕ) × (l ≡ codes "{-#" ++ (v ++ (k ++ (w ++ (n ++ m))))) × AllIn part.White v × IsKeyword (codes "language") k × IsGap w × IsIdentifier n × IsList ns m

abbrev pub text_of : Word → List ℕ
text_of w = w.1

-- The words of such a pragma are its names.
abbrev pub WordsAreNames : Type 0
WordsAreNames = (p : Place) (l : List ℕ) → IsLanguage l → (ns : List (List ℕ)) × IsNaming ns l × (map text_of (behind_keyword (words None p l)) ≡ map encode_utf8_all ns)
