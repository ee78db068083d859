-- What a token is to the grammar (Haskell 2010 Report, section 2.2).
use Rattle.std.specs.Prelude.{ℕ, true, false, nat_lt, List, Some, None, length, codes, if◌then◌else◌}
use Rattle.std.specs.declared.option.Option.{Option}
use Rattle.mk_base.specs.Texts.{same_text}
use Rattle.hs_syntax.specs.declared.token.Token.{Token}
use Rattle.hs_syntax.specs.declared.token.TokenKind.{TokenKind}
use Rattle.hs_syntax.specs.declared.token.TokenKind.TheVariants as kind
use Rattle.hs_syntax.specs.declared.token.PutSign.{PutSign}
use Rattle.hs_syntax.specs.declared.token.PutSign.TheVariants as put
use Rattle.hs_syntax.specs.declared.sign.Sign.{Sign}
use Rattle.hs_syntax.specs.declared.sign.Sign.TheVariants.{Var, QualifiedVar, Con, QualifiedCon, Minus, Bang, Star, VarSym, QualifiedVarSym, ConSym, QualifiedConSym, Number, Quoted, Pragma, OpenBrace, CloseBrace, Semicolon, OpenParen, CloseParen, OpenSquare, CloseSquare, Comma, Backquote, Case, Class, Data, Default, Deriving, Do, Else, Foreign, If, Import, In, Infix, Infixl, Infixr, Instance, Let, Module, Newtype, Of, Then, TypeWord, Where, Wild, Dots, Colon, Typed, Equals, Lambda, Bar, Back, Arrow, As, Tilde, Implies, Other}

-- operators of variables that mean more at some places
abbrev pub operator : List ℕ → Sign
operator text =
    if same_text text (codes "-") then Minus
    else if same_text text (codes "!") then Bang
    else if same_text text (codes "*") then Star
    else VarSym

-- the special characters
abbrev pub special : List ℕ → Sign
special text =
    if same_text text (codes "(") then OpenParen
    else if same_text text (codes ")") then CloseParen
    else if same_text text (codes ",") then Comma
    else if same_text text (codes ";") then Semicolon
    else if same_text text (codes "[") then OpenSquare
    else if same_text text (codes "]") then CloseSquare
    else if same_text text (codes "`") then Backquote
    else if same_text text (codes "{") then OpenBrace false
    else if same_text text (codes "}") then CloseBrace false
    else Other

-- the reserved operators
abbrev pub reserved_operator : List ℕ → Sign
reserved_operator text =
    if same_text text (codes "=") then Equals
    else if same_text text (codes "->") then Arrow
    else if same_text text (codes "::") then Typed
    else if same_text text (codes "|") then Bar
    else if same_text text (codes "<-") then Back
    else if same_text text (codes "\\") then Lambda
    else if same_text text (codes ":") then Colon
    else if same_text text (codes "..") then Dots
    else if same_text text (codes "@") then As
    else if same_text text (codes "~") then Tilde
    else if same_text text (codes "=>") then Implies
    else Other

-- the reserved words, by their length
abbrev pub short_word : List ℕ → Sign
short_word text =
    if same_text text (codes "do") then Do
    else if same_text text (codes "if") then If
    else if same_text text (codes "in") then In
    else if same_text text (codes "of") then Of
    else if same_text text (codes "let") then Let
    else if same_text text (codes "_") then Wild
    else Other

abbrev pub middle_word : List ℕ → Sign
middle_word text =
    if same_text text (codes "case") then Case
    else if same_text text (codes "data") then Data
    else if same_text text (codes "else") then Else
    else if same_text text (codes "then") then Then
    else if same_text text (codes "type") then TypeWord
    else if same_text text (codes "where") then Where
    else if same_text text (codes "class") then Class
    else if same_text text (codes "infix") then Infix
    else Other

abbrev pub long_word : List ℕ → Sign
long_word text =
    if same_text text (codes "import") then Import
    else if same_text text (codes "module") then Module
    else if same_text text (codes "instance") then Instance
    else if same_text text (codes "infixl") then Infixl
    else if same_text text (codes "infixr") then Infixr
    else if same_text text (codes "deriving") then Deriving
    else if same_text text (codes "newtype") then Newtype
    else if same_text text (codes "default") then Default
    else if same_text text (codes "foreign") then Foreign
    else Other

abbrev pub reserved_word : List ℕ → Sign
reserved_word text = if nat_lt (length text) 4 then short_word text else if nat_lt (length text) 6 then middle_word text else long_word text

-- a written lexeme by its kind and its text
abbrev pub written : TokenKind → List ℕ → Sign
written kind.VarId text = Var
written kind.ConId text = Con
written kind.VarSym text = operator text
written kind.ConSym text = ConSym
written kind.QVarId text = QualifiedVar
written kind.QConId text = QualifiedCon
written kind.QVarSym text = QualifiedVarSym
written kind.QConSym text = QualifiedConSym
written kind.Word text = reserved_word text
written kind.WordOp text = reserved_operator text
written kind.Special text = special text
written kind.Number text = Number
written kind.Fraction text = Number
written kind.Char text = Quoted
written kind.Text text = Quoted
written kind.Pragma text = Pragma

-- a brace or a semicolon that layout put, or a written lexeme
abbrev pub sign_by : Option PutSign → TokenKind → List ℕ → Sign
sign_by (Some put.Open) k text = OpenBrace true
sign_by (Some put.Semicolon) k text = Semicolon
sign_by (Some put.Close) k text = CloseBrace true
sign_by None k text = written k text

-- what a token is to the grammar
unfoldable pub sign_of : Token → Sign
sign_of t = sign_by t.put t.kind t.text
