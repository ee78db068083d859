-- What becomes of a source, as the function of it tells.
use Rattle.std.proofs.Common.{◌≡◌, ◌∙◌, ap, sym, ℕ, List}
use Rattle.std.specs.Prelude.{Ok, Err}
use Rattle.mk_base.specs.declared.diag.Diag.{Diag}
use Rattle.build_plan.specs.Tree.{told, no_header}
use Rattle.mk_base.specs.declared.place.Pos.{Pos}
use Rattle.hs_syntax.specs.declared.header.Header.{Header}
use Rattle.hs_lex.specs.Told.{no_lexeme}
use Rattle.hs_header.specs.Reading.{Lexeme, Grammar, Unknown, IsHeaderOf, IsBadAt, IsNoneAt, IsUnknownAt, header_of}
use Rattle.hs_header.proofs.Outcomes as outcomes

pub header_told : (source : List ℕ) (h : Header) → IsHeaderOf source h → header_of source ≡ Ok h
header_told source h x = outcomes.header_told source h x

pub bad_told : (source : List ℕ) (at : Pos) → IsBadAt source at → header_of source ≡ Err (Lexeme at)
bad_told source at x = outcomes.bad_told source at x

pub none_told : (source : List ℕ) (at : Pos) → IsNoneAt source at → header_of source ≡ Err (Grammar at)
none_told source at x = outcomes.none_told source at x

pub unknown_told : (source : List ℕ) (at : Pos) (name : List ℕ) → IsUnknownAt source at name → header_of source ≡ Err (Unknown at name)
unknown_told source at name x = outcomes.unknown_told source at name x

pub lexeme_case : (source : List ℕ) (at to : Pos) (d : Diag) → IsBadAt source at → d ≡ no_lexeme to → to ≡ at → Err d ≡ told (header_of source)
lexeme_case source at to d x e f = ap Err (e ∙ ap no_lexeme f) ∙ ap told (sym (bad_told source at x))

pub grammar_case : (source : List ℕ) (at to : Pos) (d : Diag) → IsNoneAt source at → d ≡ no_header to → to ≡ at → Err d ≡ told (header_of source)
grammar_case source at to d x e f = ap Err (e ∙ ap no_header f) ∙ ap told (sym (none_told source at x))
