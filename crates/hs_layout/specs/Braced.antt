-- Layout: the tokens with the signs that are put, Report section 10.3.
use Rattle.std.specs.Prelude.{ℕ, ◌+◌, Bool, true, false, ◌||◌, nat_eq, nat_lt, List, [], ◌∷◌, ◌++◌, map, Option, Some, None, if◌then◌else◌}
use Rattle.hs_syntax.specs.declared.token.Token.{Token}
use Rattle.hs_syntax.specs.declared.token.TokenKind.{TokenKind}
use Rattle.hs_syntax.specs.declared.token.TokenKind.TheVariants as kind
use Rattle.hs_syntax.specs.declared.token.PutSign.{PutSign}
use Rattle.hs_syntax.specs.declared.token.PutSign.TheVariants as sign
use Rattle.hs_layout.specs.declared.role.Role.{Role}
use Rattle.hs_layout.specs.declared.role.Role.TheVariants as role
use Rattle.hs_layout.specs.declared.frame.Context.{Context}
use Rattle.hs_layout.specs.declared.frame.Context.TheVariants as context
use Rattle.hs_layout.specs.declared.frame.Sort.TheVariants as sort
use Rattle.hs_layout.specs.declared.frame.Frame.{Frame}
use Rattle.hs_layout.specs.declared.look.Target.TheVariants as target
use Rattle.hs_layout.specs.declared.state.Spot.{Spot}
use Rattle.hs_layout.specs.declared.state.State.{State}
use Rattle.hs_layout.specs.Roles.{role_of, is_branch}
use Rattle.hs_layout.specs.Rules.{Step, stay, and_then, frame, renew, down_to, at_line, at_opening, at_lexeme, behind_lexeme}

-- Line breaks in a text, the first argument whether a carriage return stands before it: CR LF is one.
abbrev pub newline : Bool → ℕ → ℕ
newline behind_return c = if nat_eq c 10 then (if behind_return then 0 else 1) else (if nat_eq c 13 || nat_eq c 12 then 1 else 0)

abbrev pub newlines : Bool → List ℕ → ℕ
newlines behind_return [] = 0
newlines behind_return (c ∷ cs) = newline behind_return c + newlines (nat_eq c 13) cs

-- the context that opens at a lexeme; none at a written brace, nor at the header of a module
abbrev pub bars_opening : Context → Role → Bool
bars_opening c role.OpenBrace = true
bars_opening context.Start role.Module = true
bars_opening c _ = false

abbrev pub opening_at : Option Context → Role → Option Context
opening_at None r = None
opening_at (Some c) r = if bars_opening c r then None else Some c

-- {n} or <n> or neither before a lexeme in that column
abbrev pub at_mark : Option Context → Bool → ℕ → Bool → List Frame → Step
at_mark (Some c) first n keep fs = at_opening c n keep fs
at_mark None first n keep fs = if first then at_line n keep fs else stay fs

abbrev pub is_semicolon : PutSign → Bool
is_semicolon sign.Semicolon = true
is_semicolon _ = false

-- whether the last is a semicolon; the first argument is the answer where there is none
abbrev pub ends_in_semicolon : Bool → List PutSign → Bool
ends_in_semicolon b [] = b
ends_in_semicolon b (s ∷ ss) = ends_in_semicolon (is_semicolon s) ss

abbrev pub is_first_of_line : State → Token → Bool
is_first_of_line st t = nat_lt (st.line + st.breaks) t.at.line

-- a semicolon in the source drops the notes, unless `then` or `else` follows
abbrev pub behind_semicolon : Bool → Bool → List Frame → List Frame
behind_semicolon semicolon keep fs = if semicolon then renew keep fs else fs

abbrev pub marked : State → Token → Role → Step
marked st t r = at_mark (opening_at st.opens r) (is_first_of_line st t) t.at.col (is_branch r) (behind_semicolon st.semicolon (is_branch r) st.frames)

-- what is put before a lexeme
abbrev pub before : State → Token → Role → Step
before st t r = and_then (marked st t r) (at_lexeme r (ends_in_semicolon false (marked st t r).puts) t.at.col)

-- the context that opens behind a lexeme
abbrev pub opener : Role → Option Context
opener role.Let = Some context.Let
opener role.Where = Some context.Where
opener role.Do = Some context.Do
opener role.Of = Some context.Of
opener _ = None

abbrev pub is_semicolon_role : Role → Bool
is_semicolon_role role.Semicolon = true
is_semicolon_role _ = false

-- where the signs stand that are put at the end of the input, where this token is the last one: at its place and its end
abbrev pub end_of : Token → Spot
end_of t = record { at = t.at; byte = t.end }

-- the state behind a lexeme, from the frames before it
abbrev pub behind_token : List Frame → Token → Role → State
behind_token fs t r = record {
  frames = behind_lexeme r fs;
  opens = opener r;
  semicolon = is_semicolon_role r;
  line = t.at.line;
  breaks = newlines false t.text;
  end = end_of t;
}

abbrev pub state_behind : State → Token → Role → State
state_behind st t r = behind_token (before st t r).frames t r

-- a sign that is put
abbrev pub put_token : Spot → PutSign → Token
put_token spot s = record { kind = kind.Special; text = []; start = spot.byte; end = spot.byte; at = spot.at; put = Some s }

abbrev pub spot_of : Token → Spot
spot_of t = record { at = t.at; byte = t.start }

-- A pragma is passed on, and the rules pass over it; as any other token it is the last one where none follows.
abbrev pub is_pragma : TokenKind → Bool
is_pragma kind.Pragma = true
is_pragma _ = false

abbrev pub pieces : State → Token → List Token
pieces st t = if is_pragma t.kind then t ∷ [] else map (put_token (spot_of t)) (before st t (role_of t)).puts ++ t ∷ []

abbrev pub behind_pragma : State → Token → State
behind_pragma st t = record st { end = end_of t }

abbrev pub after : State → Token → State
after st t = if is_pragma t.kind then behind_pragma st t else state_behind st t (role_of t)

-- the end of the input: {0} where a block is to open, and each block is closed
abbrev pub at_last : Option Context → List Frame → Step
at_last None fs = stay fs
at_last (Some c) fs = at_opening c 0 false fs

abbrev pub at_end : State → Step
at_end st = and_then (at_last st.opens st.frames) (down_to target.End)

abbrev pub braced_from : State → List Token → List Token
braced_from st [] = map (put_token st.end) (at_end st).puts
braced_from st (t ∷ ts) = pieces st t ++ braced_from (after st t) ts

abbrev pub start : State
start = record {
  frames = frame sort.Context context.Outside 0 ∷ [];
  opens = Some context.Start;
  semicolon = false;
  line = 0;
  breaks = 0;
  end = record { at = record { line = 1; col = 1 }; byte = 0 };
}

abbrev pub braced : List Token → List Token
braced ts = braced_from start ts
