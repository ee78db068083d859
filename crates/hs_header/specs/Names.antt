-- Names as the lexer reads them, parted into qualifier and name (Haskell 2010 Report, section 2.4).
use Rattle.std.specs.Prelude.{◌≡◌, ◌⊎◌, ℕ, List, [], ◌∷◌, ◌++◌, encode_utf8_all}
use Rattle.source_text.specs.Characters.{characters}
use Rattle.hs_lex.specs.declared.class.Class.TheVariants as class
use Rattle.hs_lex.specs.declared.class.Part.TheVariants as part
use Rattle.hs_lex.specs.Reading.{AllIn}
use Rattle.hs_lex.specs.Lexemes.{BeginsWith, IsName, IsPlain, IsLargeName}
use Rattle.hs_syntax.specs.Names.{dotted, name_ref}
use Rattle.hs_syntax.specs.declared.token.Token.{Token}

-- A name of the lexer that begins large is conids and a last part, which is a conid too, or a name or an operator that
-- isn't reserved, with dots between them.
abbrev pub AreConids : List (List ℕ) → Type 0
AreConids [] = Unit {0}
AreConids (q ∷ qs) = (BeginsWith class.Large q × AllIn part.Name q) × AreConids qs

abbrev pub IsDotted : List (List ℕ) → List ℕ → List ℕ → List ℕ → Type 0
IsDotted qs n l rest = (l ≡ dotted (qs ++ n ∷ [])) × AreConids qs × (IsName class.Large n rest ⊎ IsPlain n rest)

-- The conids before the last part are the qualifier, and that part is the name.
abbrev pub NamesAreParted : Type 0
NamesAreParted =
    (t : Token) (rest : List ℕ) → IsLargeName (characters t.text) rest
    → (qs : List (List ℕ)) × (n : List ℕ) × IsDotted qs n (characters t.text) rest × ((name_ref t).qualifier ≡ encode_utf8_all (dotted qs)) × ((name_ref t).text ≡ encode_utf8_all n)
