-- Within written braces.
use Rattle.std.specs.Prelude.{◌≡◌, List, [], ◌∷◌, None}
use Rattle.hs_syntax.specs.declared.token.Token.{Token}
use Rattle.hs_layout.specs.declared.frame.Context.TheVariants as context
use Rattle.hs_layout.specs.declared.state.State.{State}
use Rattle.hs_layout.specs.Roles.{role_of}
use Rattle.hs_layout.specs.Rules.{context_of}
use Rattle.hs_layout.specs.Braced.{opening_at, marked, after}

-- the state behind tokens
abbrev pub behind_all : State → List Token → State
behind_all st [] = st
behind_all st (t ∷ ts) = behind_all (after st t) ts

-- the context that encloses the next lexeme is one of written braces
abbrev pub IsInBraces : State → Type 0
IsInBraces st = context_of st.frames ≡ context.Brace

-- no line puts a sign before this token, unless a block is to open there
abbrev pub PutsNoLine : State → Token → Type 0
PutsNoLine st t = opening_at st.opens (role_of t) ≡ None → (marked st t (role_of t)).puts ≡ []
