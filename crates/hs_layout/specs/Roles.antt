-- What lexemes are to layout.
use Rattle.std.specs.Prelude.{ℕ, Bool, true, false, List, codes, if◌then◌else◌}
use Rattle.mk_base.specs.Texts.{same_text}
use Rattle.hs_syntax.specs.declared.token.Token.{Token}
use Rattle.hs_syntax.specs.declared.token.TokenKind.{TokenKind}
use Rattle.hs_syntax.specs.declared.token.TokenKind.TheVariants as kind
use Rattle.hs_layout.specs.declared.role.Role.{Role}
use Rattle.hs_layout.specs.declared.role.Role.TheVariants as role

abbrev pub other_word_role : List ℕ → Role
other_word_role x =
    if same_text x (codes "module") then role.Module
    else (if same_text x (codes "infix") then role.Fixity
    else (if same_text x (codes "infixl") then role.Fixity
    else (if same_text x (codes "infixr") then role.Fixity
    else role.Other)))

abbrev pub word_role : List ℕ → Role
word_role x =
    if same_text x (codes "let") then role.Let
    else (if same_text x (codes "where") then role.Where
    else (if same_text x (codes "do") then role.Do
    else (if same_text x (codes "of") then role.Of
    else (if same_text x (codes "case") then role.Case
    else (if same_text x (codes "if") then role.If
    else (if same_text x (codes "then") then role.Then
    else (if same_text x (codes "else") then role.Else
    else (if same_text x (codes "in") then role.In
    else other_word_role x))))))))

abbrev pub operator_role : List ℕ → Role
operator_role x =
    if same_text x (codes "|") then role.Bar
    else (if same_text x (codes "=") then role.Equals
    else (if same_text x (codes "->") then role.Arrow
    else (if same_text x (codes "\\") then role.Lambda
    else (if same_text x (codes "::") then role.Typed
    else (if same_text x (codes ":") then role.Operator
    else role.Other)))))

abbrev pub special_role : List ℕ → Role
special_role x =
    if same_text x (codes "(") then role.OpenParen
    else (if same_text x (codes ")") then role.CloseParen
    else (if same_text x (codes "[") then role.OpenBracket
    else (if same_text x (codes "]") then role.CloseBracket
    else (if same_text x (codes "{") then role.OpenBrace
    else (if same_text x (codes "}") then role.CloseBrace
    else (if same_text x (codes ",") then role.Comma
    else (if same_text x (codes ";") then role.Semicolon
    else role.Other)))))))

abbrev pub role_of_kind : TokenKind → List ℕ → Role
role_of_kind kind.Word x = word_role x
role_of_kind kind.WordOp x = operator_role x
role_of_kind kind.Special x = special_role x
role_of_kind kind.VarId x = role.Variable
role_of_kind kind.QVarId x = role.Variable
role_of_kind kind.VarSym x = role.Operator
role_of_kind kind.ConSym x = role.Operator
role_of_kind kind.QVarSym x = role.Operator
role_of_kind kind.QConSym x = role.Operator
role_of_kind _ x = role.Other

abbrev pub role_of : Token → Role
role_of t = role_of_kind t.kind t.text

abbrev pub is_branch : Role → Bool
is_branch role.Then = true
is_branch role.Else = true
is_branch _ = false
