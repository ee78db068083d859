-- How deep the lexemes of a text nest: each open bracket counts 1, and each level counts its words and operators since its last separator.
use Rattle.std.specs.Prelude.{◌≡◌, ◌↔◌, ℕ, suc, ◌+◌, ◌-◌, nat_le, Bool, true, false, not, List, [], ◌∷◌, ◌++◌, Some, None, length, sum, if◌then◌else◌}
use Rattle.std.specs.declared.option.Option.{Option}
use Rattle.mk_base.specs.declared.place.Pos.{Pos}
use Rattle.hs_syntax.specs.declared.token.Token.{Token}
use Rattle.hs_syntax.specs.declared.sign.Sign.{Sign}
use Rattle.hs_syntax.specs.declared.sign.Sign.TheVariants.{Minus, Bang, Star, VarSym, QualifiedVarSym, ConSym, QualifiedConSym, OpenBrace, CloseBrace, Semicolon, OpenParen, CloseParen, OpenSquare, CloseSquare, Comma, Backquote, Case, Do, If, Let, Colon, Lambda, Bar, Arrow, As, Tilde}
use Rattle.hs_syntax.specs.Signs.{sign_of}
use Rattle.hs_nesting.specs.declared.nesting.Role.{Role}
use Rattle.hs_nesting.specs.declared.nesting.Role.TheVariants as role

-- what a lexeme is to nesting
abbrev pub role_of : Sign → Role
role_of (OpenBrace b) = role.Opens
role_of OpenParen = role.Opens
role_of OpenSquare = role.Opens
role_of (CloseBrace b) = role.Closes
role_of CloseParen = role.Closes
role_of CloseSquare = role.Closes
role_of Semicolon = role.Separates
role_of Comma = role.Separates
role_of Bar = role.Separates
role_of Lambda = role.Counts
role_of Let = role.Counts
role_of If = role.Counts
role_of Case = role.Counts
role_of Do = role.Counts
role_of Tilde = role.Counts
role_of As = role.Counts
role_of Arrow = role.Counts
role_of VarSym = role.Counts
role_of Minus = role.Counts
role_of Bang = role.Counts
role_of Star = role.Counts
role_of QualifiedVarSym = role.Counts
role_of ConSym = role.Counts
role_of QualifiedConSym = role.Counts
role_of Colon = role.Counts
role_of Backquote = role.Quotes
role_of _ = role.Nothing

-- The open levels are what each counts, the innermost first; the outermost one, which no bracket opens, is the last.

-- one more counts at the innermost level
abbrev pub counted : List ℕ → List ℕ
counted [] = []
counted (n ∷ ns) = suc n ∷ ns

-- the innermost level counts anew
abbrev pub separated : List ℕ → List ℕ
separated [] = []
separated (n ∷ ns) = 0 ∷ ns

-- a closing bracket of any sort closes the innermost level; the outermost stays
abbrev pub closed : List ℕ → List ℕ
closed (n ∷ m ∷ ns) = m ∷ ns
closed ns = ns

-- the levels behind a lexeme, in or out of backquotes
abbrev pub levels_behind : Role → Bool → List ℕ → List ℕ
levels_behind role.Opens quoted ns = 0 ∷ ns
levels_behind role.Closes quoted ns = closed ns
levels_behind role.Separates quoted ns = separated ns
levels_behind role.Counts quoted ns = counted ns
levels_behind role.Quotes false ns = counted ns
levels_behind role.Quotes true ns = ns
levels_behind role.Nothing quoted ns = ns

-- backquotes come in pairs
abbrev pub quoted_behind : Role → Bool → Bool
quoted_behind role.Quotes quoted = not quoted
quoted_behind _ quoted = quoted

-- the open brackets, and what all levels count
abbrev pub depth : List ℕ → ℕ
depth ns = (length ns - 1) + sum ns

abbrev pub most : ℕ
most = 500

-- whether the levels are no deeper than they may be
abbrev pub fits : List ℕ → Bool
fits ns = nat_le (depth ns) most

-- the place of the first lexeme behind which the levels are too deep
abbrev pub first_over : Bool → List ℕ → List Token → Option Pos
first_over quoted ns [] = None
first_over quoted ns (t ∷ ts) =
    if fits (levels_behind (role_of (sign_of t)) quoted ns)
    then first_over (quoted_behind (role_of (sign_of t)) quoted) (levels_behind (role_of (sign_of t)) quoted ns) ts
    else Some t.at

-- the place of the first lexeme at which nesting passes 500
abbrev pub nesting : List Token → Option Pos
nesting ts = first_over false (0 ∷ []) ts

-- the levels behind a text
abbrev pub levels_from : Bool → List ℕ → List Token → List ℕ
levels_from quoted ns [] = ns
levels_from quoted ns (t ∷ ts) = levels_from (quoted_behind (role_of (sign_of t)) quoted) (levels_behind (role_of (sign_of t)) quoted ns) ts

abbrev pub levels : List Token → List ℕ
levels ts = levels_from false (0 ∷ []) ts

-- behind each beginning of a text the levels fit
abbrev pub FitsThroughout : List Token → Type 0
FitsThroughout ts = (front rest : List Token) → ts ≡ front ++ rest → fits (levels front) ≡ true

-- nesting passes 500 nowhere exactly where the levels fit behind each beginning
abbrev pub PassesNowhere : Type 0
PassesNowhere = (ts : List Token) → nesting ts ≡ None ↔ FitsThroughout ts

-- and else at the first lexeme behind which they don't
abbrev pub PassesFirst : Type 0
PassesFirst = (front : List Token) (t : Token) (rest : List Token) → FitsThroughout front → fits (levels (front ++ t ∷ [])) ≡ false → nesting (front ++ t ∷ rest) ≡ Some t.at

-- what begins a text nests no deeper than the text
abbrev pub FrontsNestNoDeeper : Type 0
FrontsNestNoDeeper = (front rest : List Token) → nesting (front ++ rest) ≡ None → nesting front ≡ None
