-- The tokens of a source.
use Rattle.std.specs.Prelude.{◌≡◌, ◌≢◌, ◌⊎◌, ◌+◌, ◌-◌, ◌*◌, ◌≤◌, ℕ, Bool, true, false, List, [], ◌∷◌, ◌++◌, length, take, drop, Option, Some, None, if◌then◌else◌}
use Rattle.std.specs.Str.{bytes_eq}
use Rattle.mk_base.specs.declared.place.Pos.{Pos}
use Rattle.hs_syntax.specs.declared.token.Token.{Token}
use Rattle.hs_syntax.specs.declared.token.TokenKind.{TokenKind}
use Rattle.source_text.specs.Characters.{characters, span}
use Rattle.source_text.specs.Places.{after}
use Rattle.source_text.specs.declared.place.Place.{Place}
use Rattle.hs_lex.specs.declared.item.Kind.{Kind}
use Rattle.hs_lex.specs.declared.item.Kind.TheVariants.{NestedComment}
use Rattle.hs_lex.specs.declared.cursor.Stage.{Stage}
use Rattle.hs_lex.specs.declared.cursor.Stage.TheVariants.{Front, Import, Later}
use Rattle.hs_lex.specs.declared.cursor.Cursor.{Cursor}
use Rattle.hs_lex.specs.declared.cursor.Turn.{Turn}
use Rattle.hs_lex.specs.Items.{IsItem, NoItem, Leads, is_lexeme}
use Rattle.hs_lex.specs.Words.{is_import}
use Rattle.hs_lex.specs.Kinds.{kind_of}
use Rattle.hs_lex.specs.Pragmas.{IsLanguage, IsSource}

-- the comments that count: pragmas for LANGUAGE before the first other lexeme, and one for SOURCE behind `import`
abbrev pub IsPragma : Stage → List ℕ → Type 0
IsPragma Front l = IsLanguage l
IsPragma Import l = IsSource l
IsPragma Later l = ⊥

-- an item is a lexeme: white space and comments are none, but for pragmas that count
abbrev pub IsToken : Stage → Kind → List ℕ → Type 0
IsToken s NestedComment l = IsPragma s l
IsToken s k l = is_lexeme k ≡ true

-- the stage behind a lexeme
abbrev pub behind_token : Stage → Kind → List ℕ → Stage
behind_token Front NestedComment l = Front
behind_token s k l = if is_import l then Import else Later

-- the kind of lexeme that the item is at the stage, if it is one, and the stage behind it
abbrev pub Counts : Stage → Kind → List ℕ → Option TokenKind → Stage → Type 0
Counts s k l (Some kind) next = IsToken s k l × (kind ≡ kind_of k l) × (next ≡ behind_token s k l)
Counts s k l None next = (IsToken s k l → ⊥) × (next ≡ s)

abbrev pub position : Place → Pos
position p = record { line = p.line; col = p.column }

-- the token of a kind between two cursors
abbrev pub token_at : List ℕ → Cursor → TokenKind → Cursor → Token
token_at source c kind d = record { kind = kind; text = take (d.at - c.at) (drop c.at source); start = c.at; end = d.at; at = position c.place; put = None }

abbrev pub tokens_at : List ℕ → Cursor → Option TokenKind → Cursor → List Token
tokens_at source c None d = []
tokens_at source c (Some kind) d = token_at source c kind d ∷ []

-- the cursor behind a text
abbrev pub moved : Cursor → List ℕ → Stage → Cursor
moved c l s = record { at = c.at + span l; place = after c.place l; stage = s }

-- behind the item of the kind and text at a cursor
abbrev pub IsTurn : Cursor → Kind → List ℕ → Turn → Type 0
IsTurn c k l t = Counts c.stage k l t.kind t.to.stage × (t.to ≡ moved c l t.to.stage)

-- items from a cursor on, their tokens, and the cursor behind them
abbrev pub Tokens : List ℕ → Cursor → List (Kind × List ℕ) → List Token → Cursor → Type 0
Tokens source c [] ts d = (ts ≡ []) × (d ≡ c)
Tokens source c (i ∷ is) ts d = (t : Turn) × (us : List Token) × IsTurn c i.0 i.1 t × (ts ≡ tokens_at source c t.kind t.to ++ us) × Tokens source t.to is us d

-- what stands at a cursor
abbrev pub ahead : List ℕ → Cursor → List ℕ
ahead source c = characters (drop c.at source)

-- White space, comments and lexemes in turn, each the longest at its place, lead from one cursor to another, and these
-- are their tokens.
pub record IsRead (source : List ℕ) (c : Cursor) (is : List (Kind × List ℕ)) (ts : List Token) (d : Cursor) : Type 0 where
  pub leads : Leads is (ahead source c) (ahead source d)
  pub tokens : Tokens source c is ts d

-- the turn over the item that stands at a cursor
abbrev pub IsTaken : List ℕ → Cursor → Turn → Type 0
IsTaken source c t = (k : Kind) × (text : List ℕ) × IsItem k text (ahead source c) (ahead source t.to) × IsTurn c k text t

-- a leading U+FEFF, by its three bytes
abbrev pub is_marked : List ℕ → Bool
is_marked source = bytes_eq (239 ∷ 187 ∷ 191 ∷ []) (take 3 source)

-- the first cursor, behind a leading U+FEFF
abbrev pub start : List ℕ → Cursor
start source = record { at = (if is_marked source then 3 else 0); place = record { line = 1; column = 1; after_return = false }; stage = Front }

-- The source is white space, comments and lexemes in turn, and these are its lexemes.
abbrev pub Lexes : List ℕ → List Token → Type 0
Lexes source ts = (is : List (Kind × List ℕ)) × (d : Cursor) × IsRead source (start source) is ts d × (ahead source d ≡ [])

-- The cursor stands behind some items, read from the start.
abbrev pub IsReached : List ℕ → Cursor → Type 0
IsReached source c = (is : List (Kind × List ℕ)) × (ts : List Token) × IsRead source (start source) is ts c

-- Something stands there, and none of the three begins.
abbrev pub IsStuck : List ℕ → Cursor → Pos → Type 0
IsStuck source c at = (ahead source c ≢ []) × NoItem (ahead source c) × (at ≡ position c.place)

-- The place is the first at which none of the three begins.
abbrev pub IsFirstBad : List ℕ → Pos → Type 0
IsFirstBad source at = (is : List (Kind × List ℕ)) × (ts : List Token) × (d : Cursor) × IsRead source (start source) is ts d × IsStuck source d at

-- The first token behind a cursor, and the cursor behind it.
abbrev pub IsNext : List ℕ → Cursor → Token → Cursor → Type 0
IsNext source c t e = (is : List (Kind × List ℕ)) × (d : Cursor) × (i : Kind × List ℕ) × IsRead source c is [] d × IsRead source d (i ∷ []) (t ∷ []) e

-- Only white space and comments that don't count follow.
abbrev pub IsBlank : List ℕ → Cursor → Type 0
IsBlank source c = (is : List (Kind × List ℕ)) × (d : Cursor) × IsRead source c is [] d × (ahead source d ≡ [])

-- Only white space and comments that don't count stand before the first place at which nothing begins.
abbrev pub IsBadFrom : List ℕ → Cursor → Pos → Type 0
IsBadFrom source c at = (is : List (Kind × List ℕ)) × (d : Cursor) × IsRead source c is [] d × IsStuck source d at

-- The byte is 0, or the one behind some item of the reading from the start, and this is the cursor there.
abbrev pub IsPlace : List ℕ → ℕ → Cursor → Type 0
IsPlace source at c = IsReached source c × ((c.at ≡ at) ⊎ ((at ≡ 0) × (c ≡ start source)))

-- the cursor's bytes, line and column are within those of the source
abbrev pub IsWithin : List ℕ → Cursor → Type 0
IsWithin source c = (c.at ≤ length source) × (c.place.line ≤ c.at + 1) × (c.place.column ≤ 8 * c.at + 1)
