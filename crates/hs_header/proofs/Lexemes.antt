-- A token of each sort that the grammar asks for.
use Rattle.std.proofs.Common.{◌≡◌, ℕ, false, List, None, refl, codes}
use Rattle.mk_base.specs.Places.{first_place}
use Rattle.hs_syntax.specs.declared.token.Token.{Token}
use Rattle.hs_syntax.specs.declared.token.TokenKind.{TokenKind}
use Rattle.hs_syntax.specs.declared.token.TokenKind.TheVariants as kind
use Rattle.hs_syntax.specs.declared.sign.Sign.TheVariants.{Con, VarSym, OpenParen, CloseParen, OpenBrace, Where}
use Rattle.hs_syntax.specs.Signs.{sign_of}

abbrev lexeme : TokenKind → List ℕ → Token
lexeme k text = record { kind = k; text = text; start = 0; end = 0; at = first_place; put = None }

abbrev pub the_close : Token
the_close = lexeme kind.Special (codes ")")

pub is_close : sign_of the_close ≡ CloseParen
unfolding sign_of
is_close = refl

abbrev pub the_paren : Token
the_paren = lexeme kind.Special (codes "(")

pub is_paren : sign_of the_paren ≡ OpenParen
unfolding sign_of
is_paren = refl

abbrev pub the_brace : Token
the_brace = lexeme kind.Special (codes "{")

pub is_brace : sign_of the_brace ≡ OpenBrace false
unfolding sign_of
is_brace = refl

abbrev pub the_where : Token
the_where = lexeme kind.Word (codes "where")

pub is_where : sign_of the_where ≡ Where
unfolding sign_of
is_where = refl

abbrev pub the_con : Token
the_con = lexeme kind.ConId (codes "A")

pub is_con : sign_of the_con ≡ Con
unfolding sign_of
is_con = refl

abbrev pub the_symbol : Token
the_symbol = lexeme kind.VarSym (codes "+")

pub is_symbol : sign_of the_symbol ≡ VarSym
unfolding sign_of
is_symbol = refl
