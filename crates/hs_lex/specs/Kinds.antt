-- The kinds of lexemes (Haskell 2010 Report, section 2.2).
use Rattle.std.specs.Prelude.{ℕ, Bool, false, ◌==◌, List, [], ◌∷◌, Option, Some, None, if◌then◌else◌}
use Rattle.hs_syntax.specs.declared.token.TokenKind.{TokenKind}
use Rattle.hs_syntax.specs.declared.token.TokenKind.TheVariants as token
use Rattle.hs_lex.specs.declared.class.Class.{Class}
use Rattle.hs_lex.specs.declared.class.Class.TheVariants as class
use Rattle.hs_lex.specs.declared.item.Kind.{Kind}
use Rattle.hs_lex.specs.declared.item.Kind.TheVariants.{Blank, LineComment, NestedComment, SmallName, LargeName, Operator, Number, Fraction, Quoted, Char, Special}
use Rattle.hs_lex.specs.Classes.{class_of}
use Rattle.hs_lex.specs.Words.{is_word, is_operator_word}

abbrev pub begins_with : ℕ → List ℕ → Bool
begins_with d [] = false
begins_with d (c ∷ cs) = c == d

-- an operator that begins with a colon is a constructor
abbrev pub sign_kind : TokenKind → TokenKind → ℕ → TokenKind
sign_kind variable constructor c = if c == 58 then constructor else variable

-- the kind of a name whose last part begins with the character; none where a further qualifier does
abbrev pub last_kind : Class → ℕ → Option TokenKind
last_kind class.Small c = Some token.QVarId
last_kind class.Symbol c = Some (sign_kind token.QVarSym token.QConSym c)
last_kind _ c = None

abbrev pub last_kind_at : List ℕ → Option TokenKind
last_kind_at [] = None
last_kind_at (c ∷ cs) = last_kind (class_of c) c

abbrev pub or_else : Option TokenKind → TokenKind → TokenKind
or_else (Some k) other = k
or_else None other = other

-- the kind of a name that begins large: what stands behind its dots decides, and k where there is none
unfoldable pub large_kind : TokenKind → List ℕ → TokenKind
large_kind k [] = k
large_kind k (c ∷ cs) = if c == 46 then or_else (last_kind_at cs) (large_kind token.QConId cs) else large_kind k cs

-- the kind of the lexeme that an item is; a comment that counts is a pragma
abbrev pub kind_of : Kind → List ℕ → TokenKind
kind_of SmallName l = if is_word l then token.Word else token.VarId
kind_of LargeName l = large_kind token.ConId l
kind_of Operator l = if is_operator_word l then token.WordOp else (if begins_with 58 l then token.ConSym else token.VarSym)
kind_of Number l = token.Number
kind_of Fraction l = token.Fraction
kind_of Quoted l = token.Text
kind_of Char l = token.Char
kind_of Special l = token.Special
kind_of NestedComment l = token.Pragma
kind_of LineComment l = token.Pragma
kind_of Blank l = token.Pragma
