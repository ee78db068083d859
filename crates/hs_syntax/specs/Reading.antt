-- What is read at a place, with the tokens behind it: the words in which every reader of tokens is written.
use Rattle.std.specs.Prelude.{◌≡◌, Bool, true, false, List, [], ◌∷◌, Option, Some, None, cond}
use Rattle.std.specs.Borrow.{Bor}
use Rattle.hs_syntax.specs.declared.token.Token.{Token}
use Rattle.hs_syntax.specs.declared.sign.Sign.{Sign}
use Rattle.hs_syntax.specs.declared.sign.Sign.TheVariants.{Comma, OpenParen, CloseParen, OpenSquare, CloseSquare, Equals, Typed, Arrow, Back, Bar, Dots, Implies, Backquote, Semicolon, In, Of, Then, Else, Where}
use Rattle.hs_syntax.specs.Signs.{sign_of}

-- what begins at a place, with the tokens behind it
abbrev pub Found : Type 0 → Type 0
Found X = Option (X × List Token)

-- an answer of the code, as a value
abbrev pub seen : {A : Type 0} → Option (A × Bor (List Token)) → Found A
seen None = None
seen (Some p) = Some (p.0, p.1.now)

-- and a place alone
abbrev pub tail_of : Option (Bor (List Token)) → Option (List Token)
tail_of None = None
tail_of (Some b) = Some b.now

-- one thing and then another
abbrev pub and_then : {X Y : Type 0} → Found X → (X → List Token → Found Y) → Found Y
and_then None f = None
and_then (Some p) f = f p.0 p.1

-- one thing, or else another
abbrev pub or_else : {X : Type 0} → Found X → Found X → Found X
or_else None g = g
or_else (Some p) g = Some p

-- one thing and what follows it, or else another
abbrev pub or_else_by : {X Y : Type 0} → Found X → (X → List Token → Found Y) → Found Y → Found Y
or_else_by None f g = g
or_else_by (Some p) f g = f p.0 p.1

-- with the first token, where there is one
abbrev pub with_first : {X : Type 0} → List Token → Found X → (Token → List Token → Sign → Found X) → Found X
with_first [] other f = other
with_first (t ∷ ts) other f = f t ts (sign_of t)

-- whether a token of some sort stands first
abbrev pub begins : (Sign → Bool) → List Token → Bool
begins p [] = false
begins p (t ∷ ts) = p (sign_of t)

-- the tokens behind one of some sort, where it stands first
abbrev pub behind : (Sign → Bool) → List Token → Option (List Token)
behind p [] = None
behind p (t ∷ ts) = cond (p (sign_of t)) (Some ts) None

-- what follows a sign where it stands there, or else another thing
abbrev pub and_behind : {X : Type 0} → Option (List Token) → (List Token → Found X) → Found X → Found X
and_behind None f other = other
and_behind (Some ts) f other = f ts

-- an answer with the tokens behind a sign, where it stands there
abbrev pub with_sign : {X : Type 0} → Option (List Token) → X → Found X
with_sign None x = None
with_sign (Some ts) x = Some (x, ts)

abbrev pub is_comma : Sign → Bool
is_comma Comma = true
is_comma _ = false

abbrev pub is_open_paren : Sign → Bool
is_open_paren OpenParen = true
is_open_paren _ = false

abbrev pub is_close_paren : Sign → Bool
is_close_paren CloseParen = true
is_close_paren _ = false

abbrev pub is_open_square : Sign → Bool
is_open_square OpenSquare = true
is_open_square _ = false

abbrev pub is_close_square : Sign → Bool
is_close_square CloseSquare = true
is_close_square _ = false

abbrev pub is_equals : Sign → Bool
is_equals Equals = true
is_equals _ = false

abbrev pub is_typed : Sign → Bool
is_typed Typed = true
is_typed _ = false

abbrev pub is_arrow : Sign → Bool
is_arrow Arrow = true
is_arrow _ = false

abbrev pub is_back : Sign → Bool
is_back Back = true
is_back _ = false

abbrev pub is_bar : Sign → Bool
is_bar Bar = true
is_bar _ = false

abbrev pub is_dots : Sign → Bool
is_dots Dots = true
is_dots _ = false

abbrev pub is_implies : Sign → Bool
is_implies Implies = true
is_implies _ = false

abbrev pub is_backquote : Sign → Bool
is_backquote Backquote = true
is_backquote _ = false

abbrev pub is_semicolon : Sign → Bool
is_semicolon Semicolon = true
is_semicolon _ = false

abbrev pub is_in : Sign → Bool
is_in In = true
is_in _ = false

abbrev pub is_of : Sign → Bool
is_of Of = true
is_of _ = false

abbrev pub is_then : Sign → Bool
is_then Then = true
is_then _ = false

abbrev pub is_else : Sign → Bool
is_else Else = true
is_else _ = false

abbrev pub is_where : Sign → Bool
is_where Where = true
is_where _ = false
