-- The header of a source: the pragmas for LANGUAGE in front, and the grammar over the lexemes behind them with the signs
-- that layout puts.
use Rattle.std.specs.Prelude.{◌≡◌, ◌≢◌, ◌⊎◌, ◌↔◌, ℕ, List, [], ◌∷◌, ◌++◌, map, Option, Some, None, Result, Ok, Err, if◌then◌else◌}
use Rattle.mk_base.specs.declared.place.Pos.{Pos}
use Rattle.mk_base.specs.Places.{first_place}
use Rattle.hs_syntax.specs.declared.header.Header.{Header}
use Rattle.hs_syntax.specs.declared.token.Token.{Token}
use Rattle.hs_lex.specs.Slow.{lexemes_of}
use Rattle.hs_layout.specs.declared.state.State.{State}
use Rattle.hs_layout.specs.Braced.{is_pragma, pieces, after, at_end, put_token}
use Rattle.hs_layout.specs.Braced as layout
use Rattle.hs_header.specs.declared.expected.Stop.TheVariants as stop
use Rattle.hs_header.specs.declared.extension.Flags.{Flags}
use Rattle.hs_header.specs.declared.header_err.HeaderErr.{HeaderErr}
use Rattle.hs_header.specs.declared.header_err.HeaderErr.TheVariants as error
use Rattle.hs_header.specs.Extensions.{Word, flags_of}
use Rattle.hs_header.specs.Grammar.{IsHeader, Begins, IsLeftAt, IsCut}
use Rattle.hs_header.specs.Readers.{Answer, header_at}

-- The lexemes.

-- Pragmas before the first other lexeme are for LANGUAGE: those in front, and what stands behind them.
abbrev pub leading : List Token → List Token
leading [] = []
leading (t ∷ ts) = if is_pragma t.kind then t ∷ leading ts else []

abbrev pub behind_leading : List Token → List Token
behind_leading [] = []
behind_leading (t ∷ ts) = if is_pragma t.kind then behind_leading ts else t ∷ ts

-- what pragmas say in turn, or the first extension in them that isn't known
abbrev pub on_flags : Result Flags Word → (Flags → Result Flags Word) → Result Flags Word
on_flags (Ok f) on = on f
on_flags (Err w) on = Err w

abbrev pub flags_by : Flags → List Token → Result Flags Word
flags_by f [] = Ok f
flags_by f (t ∷ ts) = on_flags (flags_of f t) (λ g. flags_by g ts)

abbrev pub no_flags : Flags
no_flags = record { prelude = None; restrict = None }

-- lexemes with the signs before each; where the input ends behind them, with those at the end
abbrev pub end_signs : State → Option Pos → List Token
end_signs st None = map (put_token st.end) (at_end st).puts
end_signs st (Some at) = []

abbrev pub laid : State → List Token → Option Pos → List Token
laid st [] bad = end_signs st bad
laid st (t ∷ ts) bad = pieces st t ++ laid (after st t) ts bad

-- the place of the last of some tokens
abbrev pub last_of : Pos → List Token → Pos
last_of p [] = p
last_of p (t ∷ ts) = last_of t.at ts

-- Of a source: its lexemes up to the first place at which none begins, and that place.

abbrev pub lexemes : List ℕ → List Token
lexemes source = (lexemes_of source).0

abbrev pub bad_place : List ℕ → Option Pos
bad_place source = (lexemes_of source).1

abbrev pub flags_in : List ℕ → Result Flags Word
flags_in source = flags_by no_flags (leading (lexemes source))

abbrev pub laid_out : List ℕ → List Token
laid_out source = laid layout.start (behind_leading (lexemes source)) (bad_place source)

-- the header with what the pragmas say
abbrev pub flagged : Header → Flags → Header
flagged h f = record h { prelude = f.prelude; restrict = f.restrict }

-- What becomes of a source.

-- Where lexemes end at a bad place, a header is decided by a lexeme behind it alone.
abbrev pub IsDecided : Option Pos → List Token → Type 0
IsDecided None b = Unit {0}
IsDecided (Some at) b = b ≢ []

-- it has this header
abbrev pub IsHeaderOf : List ℕ → Header → Type 0
IsHeaderOf source h = (f : Flags) × (b : List Token) × (g : Header) × (flags_in source ≡ Ok f) × IsHeader (laid_out source) b g × IsDecided (bad_place source) b × (h ≡ flagged g f)

-- no lexeme begins at this place, and all that stands before it begins a header, which is not decided there
abbrev pub IsBadAt : List ℕ → Pos → Type 0
IsBadAt source at = (f : Flags) × (flags_in source ≡ Ok f) × (bad_place source ≡ Some at) × Begins (laid_out source) × ((h : Header) → IsHeaderOf source h → ⊥)

-- it leaves the grammar at this place; where the input ends too early, that is the place of its last lexeme
abbrev pub IsNoneAt : List ℕ → Pos → Type 0
IsNoneAt source at = (f : Flags) × (flags_in source ≡ Ok f) × (IsLeftAt (laid_out source) at ⊎ ((bad_place source ≡ None) × IsCut (laid_out source) × (at ≡ last_of first_place (lexemes source))))

-- it names an extension that isn't known, at this place
abbrev pub IsUnknownAt : List ℕ → Pos → List ℕ → Type 0
IsUnknownAt source at name = flags_in source ≡ Err (at, name)

-- The same as a function.

-- Why a source has no header: a place at which no lexeme begins, the lexeme with which the grammar is left, or an
-- extension that isn't known, with its place.
pub data Fault : Type 0 where
  Lexeme : Pos → Fault
  Grammar : Pos → Fault
  Unknown : Pos → List ℕ → Fault

abbrev pub whole : Option Pos → List Token → Header → Result Header Fault
whole (Some at) [] h = Err (Lexeme at)
whole _ b h = Ok h

abbrev pub cut : Option Pos → Pos → Result Header Fault
cut None last = Err (Grammar last)
cut (Some at) last = Err (Lexeme at)

abbrev pub concluded : Flags → Option Pos → Pos → Answer Header → Result Header Fault
concluded f bad last (Ok p) = whole bad p.1 (flagged p.0 f)
concluded f bad last (Err (stop.At at)) = Err (Grammar at)
concluded f bad last (Err stop.End) = cut bad last

-- behind the pragmas in front
abbrev pub behind_pragmas : Pos → List Token → Option Pos → Flags → Result Header Fault
behind_pragmas last ts bad f = concluded f bad (last_of last ts) (header_at (laid layout.start ts bad))

abbrev pub with_flags : Result Flags Word → (Flags → Result Header Fault) → Result Header Fault
with_flags (Ok f) on = on f
with_flags (Err w) on = Err (Unknown w.0 w.1)

-- The header of a source.
unfoldable pub header_of : List ℕ → Result Header Fault
header_of source = with_flags (flags_in source) (λ f. concluded f (bad_place source) (last_of first_place (lexemes source)) (header_at (laid_out source)))

-- The function tells what becomes of a source.
pub record TellsHeader (source : List ℕ) : Type 0 where
  pub header : (h : Header) → (header_of source ≡ Ok h) ↔ IsHeaderOf source h
  pub bad : (at : Pos) → (header_of source ≡ Err (Lexeme at)) ↔ IsBadAt source at
  pub none : (at : Pos) → (header_of source ≡ Err (Grammar at)) ↔ IsNoneAt source at
  pub unknown : (at : Pos) (name : List ℕ) → (header_of source ≡ Err (Unknown at name)) ↔ IsUnknownAt source at name

-- the error tells the fault
abbrev pub IsFault : {A : Type 0} → Result A Fault → HeaderErr → Type 0
IsFault r (error.Lexeme at) = r ≡ Err (Lexeme at)
IsFault r (error.Grammar at) = r ≡ Err (Grammar at)
IsFault r (error.Extension at name) = r ≡ Err (Unknown at name)
IsFault r error.NoMemory = Unit {0}
