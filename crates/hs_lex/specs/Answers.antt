-- What `next_token` may answer at a cursor: a first lexeme, none, or the place at which nothing begins.
use Rattle.std.specs.Prelude.{◌⊎◌, ℕ, List}
use Rattle.mk_base.specs.declared.place.Pos.{Pos}
use Rattle.hs_syntax.specs.declared.token.Token.{Token}
use Rattle.hs_lex.specs.declared.cursor.Cursor.{Cursor}
use Rattle.hs_lex.specs.Tokens.{IsNext, IsBlank, IsBadFrom}

-- one of the three holds
abbrev pub IsAnswered : List ℕ → Cursor → Type 0
IsAnswered source c = ((t : Token) × (d : Cursor) × IsNext source c t d) ⊎ (IsBlank source c ⊎ ((at : Pos) × IsBadFrom source c at))

-- and no two hold together
abbrev pub AnswersExclude : List ℕ → Cursor → Type 0
AnswersExclude source c =
    ((t : Token) (d : Cursor) → IsNext source c t d → IsBlank source c → ⊥)
    × ((t : Token) (d : Cursor) (at : Pos) → IsNext source c t d → IsBadFrom source c at → ⊥)
    × ((at : Pos) → IsBlank source c → IsBadFrom source c at → ⊥)
