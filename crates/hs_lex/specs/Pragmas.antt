-- Pragmas for LANGUAGE and SOURCE, by their text alone: the grammar of GHC's User's Guide, with white space between the parts.
use Rattle.std.specs.Prelude.{◌≡◌, ◌⊎◌, ℕ, List, [], ◌∷◌, ◌++◌, map, codes}
use Rattle.std.specs.Char.{to_ascii_lowercase}
use Rattle.hs_lex.specs.declared.class.Class.TheVariants as class
use Rattle.hs_lex.specs.declared.class.Part.TheVariants as part
use Rattle.hs_lex.specs.Reading.{AllIn}
use Rattle.hs_lex.specs.Lexemes.{BeginsWith}

-- the word, in any case
abbrev pub IsKeyword : List ℕ → List ℕ → Type 0
IsKeyword word l = map to_ascii_lowercase l ≡ word

-- a name that begins small or large, reserved or not
abbrev pub IsIdentifier : List ℕ → Type 0
IsIdentifier l = (BeginsWith class.Small l ⊎ BeginsWith class.Large l) × AllIn part.Name l

abbrev pub IsGap : List ℕ → Type 0
IsGap l = BeginsWith class.White l × AllIn part.White l

-- what follows an identifier: so many further ones, each behind a comma, and the end of the pragma
abbrev pub IsList : List (List ℕ) → List ℕ → Type 0
IsList [] l = (v : List ℕ) × (l ≡ v ++ codes "#-}") × AllIn part.White v
IsList (n ∷ ns) l = (v w m : List ℕ) × (l ≡ v ++ 44 ∷ (w ++ (n ++ m))) × AllIn part.White v × AllIn part.White w × IsIdentifier n × IsList ns m

-- an identifier and what follows it
unfoldable pub IsNames : List ℕ → Type 0
IsNames l = (n m : List ℕ) × (ns : List (List ℕ)) × (l ≡ n ++ m) × IsIdentifier n × IsList ns m

-- {-# LANGUAGE A, B #-}
unfoldable pub IsLanguage : List ℕ → Type 0
IsLanguage l = (v k w m : List ℕ) × (l ≡ codes "{-#" ++ (v ++ (k ++ (w ++ m)))) × AllIn part.White v × IsKeyword (codes "language") k × IsGap w × IsNames m

-- {-# SOURCE #-}
unfoldable pub IsSource : List ℕ → Type 0
IsSource l = (v k w : List ℕ) × (l ≡ codes "{-#" ++ (v ++ (k ++ (w ++ codes "#-}")))) × AllIn part.White v × IsKeyword (codes "source") k × AllIn part.White w
