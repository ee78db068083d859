-- From each state some tokens lead to the end of a module.
use Rattle.std.proofs.Common.{◌≡◌, ℕ, Bool, true, false, List, [], ◌∷◌, Some, None, Option, refl, codes}
use Rattle.mk_base.specs.declared.place.Pos.{Pos}
use Rattle.hs_syntax.specs.declared.token.Token.{Token}
use Rattle.hs_syntax.specs.declared.token.TokenKind.{TokenKind}
use Rattle.hs_syntax.specs.declared.token.TokenKind.TheVariants.{ConId, Special}
use Rattle.hs_syntax.specs.declared.token.PutSign.{PutSign}
use Rattle.hs_syntax.specs.declared.token.PutSign.TheVariants as sign
use Rattle.plain_form.specs.declared.form.Written.{Written}
use Rattle.plain_form.specs.declared.form.Reading.TheVariants.{Form}
use Rattle.plain_form.specs.declared.state.Stage.{Stage}
use Rattle.plain_form.specs.declared.state.Stage.TheVariants as stage
use Rattle.plain_form.specs.declared.state.State.{State}
use Rattle.mk_base.specs.Places.{first_place}
use Rattle.plain_form.specs.Form.{read_from, without_pragmas}

abbrev token_of : TokenKind → List ℕ → Option PutSign → Token
token_of k text s = record { kind = k; text = text; start = 0; end = 0; at = first_place; put = s }

abbrev lexeme : List ℕ → Token
lexeme text = token_of Special text None

abbrev name : List ℕ → Token
name text = token_of ConId text None

abbrev closing : Bool → Token
closing true = token_of Special [] (Some sign.Close)
closing false = lexeme (codes "}")

abbrev state_at : Stage → Bool → Written → State
state_at g put v = record { stage = g; put = put; written = v }

-- some tokens that follow lead to the end of a module
abbrev pub Ends : State → Type 0
Ends s = (p : Pos) → (rest : List Token) × (w : Written) × (read_from s p (without_pragmas rest) ≡ Form w)

-- the tokens from the constructor, the equals sign and the type on
abbrev from_con : Bool → List Token
from_con put = name (codes "C") ∷ closing put ∷ []

abbrev from_equals : Bool → List Token
from_equals put = lexeme (codes "=") ∷ from_con put

abbrev from_type : Bool → List Token
from_type put = name (codes "T") ∷ from_equals put

abbrev from_open : List Token
from_open = lexeme (codes "{") ∷ lexeme (codes "}") ∷ []

abbrev from_where : List Token
from_where = lexeme (codes "where") ∷ from_open

abbrev from_name : List Token
from_name = name (codes "A") ∷ from_where

end_at : (g : Stage) (put : Bool) (v : Written) → Ends (state_at g put v)
end_at stage.Start put v p = (lexeme (codes "module") ∷ from_name, v, refl)
end_at stage.Name put v p = (from_name, v, refl)
end_at stage.Where put v p = (from_where, v, refl)
end_at stage.Open put v p = (from_open, v, refl)
end_at stage.Body true v p = (closing true ∷ [], v, refl)
end_at stage.Body false v p = (closing false ∷ [], v, refl)
end_at (stage.Import at) true v p = (name (codes "A") ∷ closing true ∷ [], v, refl)
end_at (stage.Import at) false v p = (name (codes "A") ∷ closing false ∷ [], v, refl)
end_at (stage.Imported at) true v p = (closing true ∷ [], v, refl)
end_at (stage.Imported at) false v p = (closing false ∷ [], v, refl)
end_at stage.Datas true v p = (closing true ∷ [], v, refl)
end_at stage.Datas false v p = (closing false ∷ [], v, refl)
end_at stage.DataType true v p = (from_type true, _, refl)
end_at stage.DataType false v p = (from_type false, _, refl)
end_at (stage.DataEquals ty) true v p = (from_equals true, _, refl)
end_at (stage.DataEquals ty) false v p = (from_equals false, _, refl)
end_at (stage.DataCon ty) true v p = (from_con true, _, refl)
end_at (stage.DataCon ty) false v p = (from_con false, _, refl)
end_at (stage.Fields d) true v p = (closing true ∷ [], _, refl)
end_at (stage.Fields d) false v p = (closing false ∷ [], _, refl)
end_at stage.End put v p = ([], v, refl)

pub ends : (s : State) → Ends s
ends s = end_at s.stage s.put s.written
