-- Lexeme after lexeme, up to what decides the header.
use Rattle.std.specs.Prelude.{◌≡◌, ◌<◌, length, ℕ, List, [], ◌∷◌, ◌++◌, Option, Some, None, Result, if◌then◌else◌}
use Rattle.mk_base.specs.declared.place.Pos.{Pos}
use Rattle.hs_syntax.specs.declared.header.Header.{Header}
use Rattle.hs_syntax.specs.declared.token.Token.{Token}
use Rattle.hs_lex.specs.Slow.{Lexed, put_first, lexemes_from}
use Rattle.hs_lex.specs.Tokens.{IsReached}
use Rattle.hs_layout.specs.declared.state.State.{State}
use Rattle.hs_layout.specs.Braced.{is_pragma, pieces, after}
use Rattle.hs_layout.specs.Braced as layout
use Rattle.hs_header.specs.declared.extension.Flags.{Flags}
use Rattle.hs_header.specs.declared.stage.Stage.TheVariants as stage
use Rattle.hs_header.specs.declared.read.Front.{Front}
use Rattle.hs_header.specs.declared.read.Progress.{Progress}
use Rattle.hs_header.specs.declared.read.Ending.{Ending}
use Rattle.hs_header.specs.declared.read.Ending.TheVariants as ending
use Rattle.hs_header.specs.declared.read.Gathered.{Gathered}
use Rattle.hs_header.specs.Extensions.{flags_of}
use Rattle.hs_header.specs.Stages.{behind}
use Rattle.hs_header.specs.Reading.{Fault, laid, end_signs, last_of, concluded, behind_pragmas, with_flags}
use Rattle.hs_header.specs.Readers.{header_at}

-- over the pragmas in front, and on
unfoldable pub in_front : Flags → Pos → List Token → Option Pos → Result Header Fault
in_front f last [] bad = behind_pragmas last [] bad f
in_front f last (t ∷ ts) bad = if is_pragma t.kind then with_flags (flags_of f t) (λ g. in_front g t.at ts bad) else behind_pragmas last (t ∷ ts) bad f

-- from a cursor on
abbrev pub rest_in_front : List ℕ → Front → Result Header Fault
rest_in_front source k = in_front k.flags k.last (lexemes_from source k.cursor).0 (lexemes_from source k.cursor).1

abbrev pub rest_of : List ℕ → Front → Result Header Fault
rest_of source k = behind_pragmas k.last (lexemes_from source k.cursor).0 (lexemes_from source k.cursor).1 k.flags

-- over one pragma in front, or none stands there
abbrev pub IsPassed : List ℕ → Front → Option Front → Type 0
IsPassed source k None = rest_of source k ≡ rest_in_front source k
IsPassed source k (Some m) = (rest_in_front source m ≡ rest_in_front source k) × IsReached source m.cursor × (length (lexemes_from source m.cursor).0 < length (lexemes_from source k.cursor).0)

-- behind a lexeme
abbrev pub with_lexeme : Progress → Token → Progress
with_lexeme k t = record { cursor = k.cursor; layout = after k.layout t; tokens = k.tokens ++ pieces k.layout t; stage = behind k.stage (pieces k.layout t); last = t.at }

-- a lexeme leads from one cursor to another
abbrev pub IsOver : List ℕ → Progress → Progress → Type 0
IsOver source old new =
    (t : Token) × IsReached source new.cursor × (lexemes_from source old.cursor ≡ put_first (t ∷ []) (lexemes_from source new.cursor)) × (record new { cursor = old.cursor } ≡ with_lexeme old t)

-- what became of a lexeme
abbrev pub IsTurned : List ℕ → Progress → Option Ending → Progress → Type 0
IsTurned source old None new = IsOver source old new
IsTurned source old (Some ending.Decided) new = IsOver source old new × (new.stage ≡ stage.Over)
IsTurned source old (Some ending.Input) new = (lexemes_from source old.cursor ≡ ([], None)) × (new ≡ old)
IsTurned source old (Some (ending.Bad at)) new = (lexemes_from source old.cursor ≡ ([], Some at)) × (new ≡ old)

-- the tokens where the reading has ended
abbrev pub bad_at : Ending → Option Pos
bad_at (ending.Bad at) = Some at
bad_at ending.Input = None
bad_at ending.Decided = None

abbrev pub ending_signs : State → Ending → List Token
ending_signs st ending.Input = end_signs st None
ending_signs st _ = []

abbrev pub IsEnded : Progress → Ending → Gathered → Type 0
IsEnded k e g = (g.tokens ≡ k.tokens ++ ending_signs k.layout e) × (g.ending ≡ e) × (g.last ≡ k.last)

-- the tokens that were gathered of lexemes: all, or as many as decide the header
abbrev pub Gathers : Pos → Lexed → List Token → Pos → Ending → Type 0
Gathers last r ts p ending.Input = (r.1 ≡ None) × (ts ≡ laid layout.start r.0 r.1) × (p ≡ last_of last r.0)
Gathers last r ts p (ending.Bad at) = (r.1 ≡ Some at) × (ts ≡ laid layout.start r.0 r.1)
Gathers last r ts p ending.Decided = (behind stage.Line ts ≡ stage.Over) × ((more : List Token) × (laid layout.start r.0 r.1 ≡ ts ++ more))

abbrev pub IsGathered : Pos → Lexed → Gathered → Type 0
IsGathered last r g = Gathers last r g.tokens g.last g.ending

-- what these tell of the header
abbrev pub conclusion : Flags → Gathered → Result Header Fault
conclusion f g = concluded f (bad_at g.ending) g.last (header_at g.tokens)
