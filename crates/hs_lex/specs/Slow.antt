-- The lexemes of a source as a function, plain and slow: at each place every front of what stands there is tried, the
-- longest first.
use Rattle.std.specs.Prelude.{ℕ, zero, suc, List, [], ◌∷◌, ◌++◌, length, Option, Some, None, Result, Ok, Err, if◌then◌else◌}
use Rattle.mk_base.specs.declared.place.Pos.{Pos}
use Rattle.hs_syntax.specs.declared.token.Token.{Token}
use Rattle.hs_syntax.specs.declared.token.TokenKind.{TokenKind}
use Rattle.hs_lex.specs.declared.item.Kind.{Kind}
use Rattle.hs_lex.specs.declared.item.Kind.TheVariants.{Blank, LineComment, NestedComment, SmallName, LargeName, Operator, Number, Fraction, Quoted, Char, Special}
use Rattle.hs_lex.specs.declared.cursor.Stage.{Stage}
use Rattle.hs_lex.specs.declared.cursor.Cursor.{Cursor}
use Rattle.hs_lex.specs.declared.cursor.Turn.{Turn}
use Rattle.hs_lex.specs.Kinds.{kind_of}
use Rattle.hs_lex.specs.Lexemes.{is_nil}
use Rattle.hs_lex.specs.Deciding.{is, is_token}
use Rattle.hs_lex.specs.Tokens.{ahead, behind_token, moved, position, start, tokens_at}

abbrev pub kinds : List Kind
kinds = Blank ∷ LineComment ∷ NestedComment ∷ SmallName ∷ LargeName ∷ Operator ∷ Number ∷ Fraction ∷ Quoted ∷ Char ∷ Special ∷ []

-- the first of the kinds of which the text is, where rest follows
abbrev pub kind_among : List Kind → List ℕ → List ℕ → Option Kind
kind_among [] l rest = None
kind_among (k ∷ ks) l rest = if is k l rest then Some k else kind_among ks l rest

abbrev pub with_text : Option Kind → List ℕ → Option (Kind × List ℕ)
with_text (Some k) l = Some (k, l)
with_text None l = None

abbrev pub first_of_two : Option (Kind × List ℕ) → Option (Kind × List ℕ) → Option (Kind × List ℕ)
first_of_two (Some i) other = Some i
first_of_two None other = other

-- the longest item that begins with done and goes on with a front of rest
unfoldable pub item_from : List ℕ → List ℕ → Option (Kind × List ℕ)
item_from done [] = with_text (kind_among kinds done []) done
item_from done (c ∷ rest) = first_of_two (item_from (done ++ c ∷ []) rest) (with_text (kind_among kinds done (c ∷ rest)) done)

-- the item that stands at the front
abbrev pub item_at : List ℕ → Option (Kind × List ℕ)
item_at cs = item_from [] cs

-- the turn over an item
abbrev pub turn_kind : Stage → Kind → List ℕ → Option TokenKind
turn_kind s k l = if is_token s k l then Some (kind_of k l) else None

abbrev pub turn_stage : Stage → Kind → List ℕ → Stage
turn_stage s k l = if is_token s k l then behind_token s k l else s

abbrev pub turn_over : Cursor → Kind → List ℕ → Turn
turn_over c k l = record { kind = turn_kind c.stage k l; to = moved c l (turn_stage c.stage k l) }

abbrev pub put_before : List Token → Result (List Token) Pos → Result (List Token) Pos
put_before us (Ok ts) = Ok (us ++ ts)
put_before us (Err at) = Err at

-- over the item at a cursor, and on; with no item, the end or a bad place
abbrev pub go_over : List ℕ → Cursor → (Cursor → Result (List Token) Pos) → Option (Kind × List ℕ) → Result (List Token) Pos
go_over source c on (Some i) = put_before (tokens_at source c (turn_over c i.0 i.1).kind (turn_over c i.0 i.1).to) (on (turn_over c i.0 i.1).to)
go_over source c on None = if is_nil (ahead source c) then Ok [] else Err (position c.place)

-- n bounds the number of items
unfoldable pub read_from : ℕ → List ℕ → Cursor → Result (List Token) Pos
read_from zero source c = Err (position c.place)
read_from (suc n) source c = go_over source c (read_from n source) (item_at (ahead source c))

-- The lexemes of a source, or the first place at which neither white space nor a comment nor a lexeme begins.
unfoldable pub read_source : List ℕ → Result (List Token) Pos
read_source source = read_from (suc (length (ahead source (start source)))) source (start source)

-- The lexemes up to the end, or up to the first place at which none of the three begins, with that place.
abbrev pub Lexed : Type 0
Lexed = List Token × Option Pos

abbrev pub put_first : List Token → Lexed → Lexed
put_first us r = (us ++ r.0, r.1)

abbrev pub keep_over : List ℕ → Cursor → (Cursor → Lexed) → Option (Kind × List ℕ) → Lexed
keep_over source c on (Some i) = put_first (tokens_at source c (turn_over c i.0 i.1).kind (turn_over c i.0 i.1).to) (on (turn_over c i.0 i.1).to)
keep_over source c on None = ([], if is_nil (ahead source c) then None else Some (position c.place))

-- n bounds the number of items
unfoldable pub kept_from : ℕ → List ℕ → Cursor → Lexed
kept_from zero source c = ([], Some (position c.place))
kept_from (suc n) source c = keep_over source c (kept_from n source) (item_at (ahead source c))

-- from a cursor on
unfoldable pub lexemes_from : List ℕ → Cursor → Lexed
lexemes_from source c = kept_from (suc (length (ahead source c))) source c

-- The lexemes of a source; where it has a place at which neither white space nor a comment nor a lexeme begins, those
-- before the first such place, and that place.
abbrev pub lexemes_of : List ℕ → Lexed
lexemes_of source = lexemes_from source (start source)
