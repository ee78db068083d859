-- The form of the sources that are built, over tokens: a module's head, its imports and its data types.
use Rattle.std.specs.Prelude.{◌≡◌, ◌⊎◌, ◌↔◌, ℕ, suc, Bool, true, false, ◌&&◌, ◌||◌, not, List, [], ◌∷◌, ◌++◌, map, filter, take, slice_get, Some, None, codes, if◌then◌else◌}
use Rattle.std.specs.declared.option.Option.{Option}
use Rattle.std.specs.List.{flat_map, AllByRecursion}
use Rattle.mk_base.specs.Places.{first_place}
use Rattle.mk_base.specs.declared.place.Pos.{Pos}
use Rattle.hs_syntax.specs.Rising.{AreRising}
use Rattle.hs_syntax.specs.declared.token.Token.{Token}
use Rattle.hs_syntax.specs.declared.token.TokenKind.{TokenKind}
use Rattle.hs_syntax.specs.declared.token.TokenKind.TheVariants as kind
use Rattle.hs_syntax.specs.declared.token.PutSign.{PutSign}
use Rattle.hs_syntax.specs.declared.token.PutSign.TheVariants as sign
use Rattle.plain_form.specs.declared.form.Word.{Word}
use Rattle.plain_form.specs.declared.form.DataItem.{DataItem}
use Rattle.plain_form.specs.declared.form.Written.{Written}
use Rattle.plain_form.specs.declared.form.Reading.{Reading}
use Rattle.plain_form.specs.declared.form.Reading.TheVariants.{Form, Leaves}
use Rattle.plain_form.specs.declared.state.Stage.{Stage}
use Rattle.plain_form.specs.declared.state.Stage.TheVariants as stage
use Rattle.plain_form.specs.declared.state.State.{State}
use Rattle.mk_base.specs.Texts.{same_text}
use Rattle.plain_form.specs.Words.{is_con}

abbrev pub is_pragma : TokenKind → Bool
is_pragma kind.Pragma = true
is_pragma _ = false

-- the tokens that are no pragma
abbrev pub without_pragmas : List Token → List Token
without_pragmas ts = filter (λ (t : Token). not (is_pragma t.kind)) ts

-- the kinds of a module's name, of one word or of more with dots between
abbrev pub is_module_kind : TokenKind → Bool
is_module_kind kind.ConId = true
is_module_kind kind.QConId = true
is_module_kind _ = false

-- A written lexeme of this text. A token of the kind of a module's name is a name, whatever its text.
abbrev pub is_written : List ℕ → TokenKind → List ℕ → Bool
is_written text k written = not (is_module_kind k) && same_text written text

abbrev pub is_lexeme : List ℕ → Option PutSign → TokenKind → List ℕ → Bool
is_lexeme text None k written = is_written text k written
is_lexeme text (Some s) k written = false

abbrev pub is_text : List ℕ → Token → Bool
is_text text t = is_lexeme text t.put t.kind t.text

-- a name: a word of ASCII letters and digits that begins with a capital
abbrev pub is_word : Option PutSign → List ℕ → Bool
is_word None written = is_con written
is_word (Some s) written = false

abbrev pub is_name : Token → Bool
is_name t = is_word t.put t.text

-- a module's name
abbrev pub is_module_name : Option PutSign → TokenKind → Bool
is_module_name None k = is_module_kind k
is_module_name (Some s) k = false

abbrev pub is_module : Token → Bool
is_module t = is_module_name t.put t.kind

-- the name of a module that may be imported: any but Prim
abbrev pub is_import : Token → Bool
is_import t = is_module t && not (same_text t.text (codes "Prim"))

-- a brace or a semicolon: put by layout, or written
abbrev pub opened : Option PutSign → TokenKind → List ℕ → Option Bool
opened (Some sign.Open) k written = Some true
opened (Some s) k written = None
opened None k written = if is_written (codes "{") k written then Some false else None

abbrev pub is_closing : Bool → Option PutSign → TokenKind → List ℕ → Bool
is_closing true (Some sign.Close) k written = true
is_closing false None k written = is_written (codes "}") k written
is_closing put s k written = false

abbrev pub is_semicolon : Option PutSign → TokenKind → List ℕ → Bool
is_semicolon (Some sign.Semicolon) k written = true
is_semicolon (Some s) k written = false
is_semicolon None k written = is_written (codes ";") k written

abbrev pub is_next : Token → Bool
is_next t = is_semicolon t.put t.kind t.text

abbrev pub word_of : Token → Word
word_of t = record { text = t.text; at = t.at }

-- The state of a reading: what comes next, whether layout put the opening brace, and what was read.

abbrev pub at_stage : State → Stage → State
at_stage s g = record { stage = g; put = s.put; written = s.written }

abbrev pub with_data : State → DataItem → State
with_data s d = record { stage = s.stage; put = s.put; written = record { datas = s.written.datas ++ d ∷ [] } }

abbrev pub with_field : DataItem → Word → DataItem
with_field d f = record { ty = d.ty; con = d.con; fields = d.fields ++ f ∷ [] }

abbrev pub on : Bool → State → Option State
on true s = Some s
on false s = None

abbrev pub at_open : State → Option Bool → Option State
at_open s (Some put) = Some (record { stage = stage.Body; put = put; written = s.written })
at_open s None = None

abbrev pub is_close : State → Token → Bool
is_close s t = is_closing s.put t.put t.kind t.text

-- behind a part: a semicolon and then a further part, or the end
abbrev pub behind_part : State → Stage → Token → Option State
behind_part s next t = if is_next t then Some (at_stage s next) else on (is_close s t) (at_stage s stage.End)

-- where a part begins that is no import: a data type, or nothing
abbrev pub at_data : State → Stage → Token → Option State
at_data s next t = if is_text (codes "data") t then Some (at_stage s stage.DataType) else behind_part s next t

-- where any part begins
abbrev pub at_part : State → Token → Option State
at_part s t = if is_text (codes "import") t then Some (at_stage s (stage.Import t.at)) else at_data s stage.Body t

-- the state behind a token; none where it leaves the form
abbrev pub step_at : State → Stage → Token → Option State
step_at s stage.Start t = on (is_text (codes "module") t) (at_stage s stage.Name)
step_at s stage.Name t = on (is_module t) (at_stage s stage.Where)
step_at s stage.Where t = on (is_text (codes "where") t) (at_stage s stage.Open)
step_at s stage.Open t = at_open s (opened t.put t.kind t.text)
step_at s stage.Body t = at_part s t
step_at s (stage.Import at) t = on (is_import t) (at_stage s (stage.Imported at))
step_at s (stage.Imported at) t = behind_part s stage.Body t
step_at s stage.Datas t = at_data s stage.Datas t
step_at s stage.DataType t = on (is_name t) (at_stage s (stage.DataEquals (word_of t)))
step_at s (stage.DataEquals ty) t = on (is_text (codes "=") t) (at_stage s (stage.DataCon ty))
step_at s (stage.DataCon ty) t = on (is_name t) (at_stage s (stage.Fields (record { ty = ty; con = word_of t; fields = [] })))
step_at s (stage.Fields d) t = if is_name t then Some (at_stage s (stage.Fields (with_field d (word_of t)))) else behind_part (with_data s d) stage.Datas t
step_at s stage.End t = None

abbrev pub step : State → Token → Option State
step s t = step_at s s.stage t

-- the place that is told of a token that leaves the form: 1:1 for the first one, in an import that of its `import`, else its own
abbrev pub told : Stage → Token → Pos
told stage.Start t = first_place
told (stage.Import at) t = at
told (stage.Imported at) t = at
told g t = t.at

-- at the end of the tokens, the last of which stands at this place
abbrev pub ended : State → Stage → Pos → Reading
ended s stage.End last = Form s.written
ended s g last = Leaves last

abbrev pub go : Pos → Option State → (State → Reading) → Reading
go at (Some s) on = on s
go at None on = Leaves at

abbrev pub read_from : State → Pos → List Token → Reading
read_from s last [] = ended s s.stage last
read_from s last (t ∷ ts) = go (told s.stage t) (step s t) (λ n. read_from n t.at ts)

abbrev pub start : State
start = record { stage = stage.Start; put = false; written = record { datas = [] } }

-- The braced tokens of a source: a module of the form, or the place of what leaves the form first; where they end too early, the last one's. Pragmas are passed over.
abbrev pub read_form : List Token → Reading
read_form ts = read_from start first_place (without_pragmas ts)

-- The form by its spelling.

-- what a token is to be
pub data Mark : Type 0 where
  Fixed : List ℕ → Mark
  Module : Mark
  Imported : Mark
  Placed : Word → Mark
  Open : Bool → Mark
  Next : Mark
  Close : Bool → Mark

-- a written lexeme of this text, and no module's name
abbrev pub IsWritten : List ℕ → Token → Type 0
IsWritten text t = (t.put ≡ None) × (is_module_kind t.kind ≡ false) × (t.text ≡ text)

abbrev pub IsModule : Token → Type 0
IsModule t = (t.put ≡ None) × (is_module_kind t.kind ≡ true)

abbrev pub Fits : Mark → Token → Type 0
Fits (Fixed text) t = IsWritten text t
Fits Module t = IsModule t
Fits Imported t = IsModule t × (t.text ≡ codes "Prim" → ⊥)
Fits (Placed w) t = (t.put ≡ None) × (word_of t ≡ w)
Fits (Open true) t = t.put ≡ Some sign.Open
Fits (Open false) t = IsWritten (codes "{") t
Fits Next t = (t.put ≡ Some sign.Semicolon) ⊎ IsWritten (codes ";") t
Fits (Close true) t = t.put ≡ Some sign.Close
Fits (Close false) t = IsWritten (codes "}") t

abbrev pub AllFit : List Mark → List Token → Type 0
AllFit [] [] = Unit {0}
AllFit (m ∷ ms) (t ∷ ts) = Fits m t × AllFit ms ts
AllFit _ _ = ⊥

-- a part of the block
pub data Part : Type 0 where
  Empty : Part
  Import : Part
  Data : DataItem → Part

abbrev pub data_marks : DataItem → List Mark
data_marks d = Fixed (codes "data") ∷ Placed d.ty ∷ Fixed (codes "=") ∷ Placed d.con ∷ map Placed d.fields

abbrev pub part_marks : Part → List Mark
part_marks Empty = []
part_marks Import = Fixed (codes "import") ∷ Imported ∷ []
part_marks (Data d) = data_marks d

-- the parts with semicolons between them
abbrev pub parted : List Part → List Mark
parted [] = []
parted (p ∷ []) = part_marks p
parted (p ∷ ps) = part_marks p ++ Next ∷ parted ps

-- `module M where {`, the parts and `}`; a brace that layout put is closed by one that layout put
abbrev pub marks : Bool → List Part → List Mark
marks put ps = Fixed (codes "module") ∷ Module ∷ Fixed (codes "where") ∷ Open put ∷ (parted ps ++ Close put ∷ [])

abbrev pub datas_of : List Part → List DataItem
datas_of [] = []
datas_of (Data d ∷ ps) = d ∷ datas_of ps
datas_of (p ∷ ps) = datas_of ps

abbrev pub IsData : DataItem → Type 0
IsData d = (is_con d.ty.text ≡ true) × (is_con d.con.text ≡ true) × AllByRecursion (λ (f : Word). is_con f.text ≡ true) d.fields

-- Parts in their order: imports, where they may still stand, and then data types, the names of which are words; empty parts anywhere.
abbrev pub AreParts : Bool → List Part → Type 0
AreParts imports [] = Unit {0}
AreParts imports (Empty ∷ ps) = AreParts imports ps
AreParts imports (Import ∷ ps) = (imports ≡ true) × AreParts imports ps
AreParts imports (Data d ∷ ps) = IsData d × AreParts false ps

-- the tokens, without their pragmas, spell a module with these data types
abbrev pub IsForm : List Token → Written → Type 0
IsForm ts w = (put : Bool) × (ps : List Part) × AreParts true ps × (w.datas ≡ datas_of ps) × AllFit (marks put ps) (without_pragmas ts)

-- these tokens begin some module of the form
abbrev pub Begins : List Token → Type 0
Begins ts = (rest : List Token) × (w : Written) × IsForm (ts ++ rest) w

abbrev pub last_place : Pos → List Token → Pos
last_place p [] = p
last_place p (t ∷ ts) = last_place t.at ts

-- a semicolon or a closing brace
abbrev pub ends_part : Token → Bool
ends_part t = is_next t || (is_closing true t.put t.kind t.text || is_closing false t.put t.kind t.text)

-- the import that stands open behind a token, by the place of its `import`, where this one stands open before it
abbrev pub import_behind : Option Pos → Token → Option Pos
import_behind before t = if is_text (codes "import") t then Some t.at else (if ends_part t then None else before)

-- the last `import` among these tokens, where neither a semicolon nor a closing brace is behind it
abbrev pub open_import : Option Pos → List Token → Option Pos
open_import before [] = before
open_import before (t ∷ ts) = open_import (import_behind before t) ts

abbrev pub place_in : Option Pos → Pos → Pos
place_in (Some at) own = at
place_in None own = own

-- the place that is told of a token behind these ones: 1:1 for the first, in an import that of its `import`, else its own
abbrev pub told_behind : List Token → Token → Pos
told_behind [] t = first_place
told_behind (u ∷ us) t = place_in (open_import None (u ∷ us)) t.at

-- The place is the one that is told of the first token with which these tokens, none of them a pragma, leave the form, or, where they end too early, that of the last.
abbrev pub IsFirstBadOf : List Token → Pos → Type 0
IsFirstBadOf ts at = ((n : ℕ) × (t : Token) × (slice_get ts n ≡ Some t) × Begins (take n ts) × (Begins (take (suc n) ts) → ⊥) × (at ≡ told_behind (take n ts) t))
    ⊎ (Begins ts × ((w : Written) → IsForm ts w → ⊥) × (at ≡ last_place first_place ts))

abbrev pub IsFirstBad : List Token → Pos → Type 0
IsFirstBad ts at = IsFirstBadOf (without_pragmas ts) at

-- Tokens are read as a module exactly where they spell it, and leave the form exactly at the first bad one.
abbrev pub FormIsSpelled : Type 0
FormIsSpelled = (ts : List Token) → ((w : Written) → (read_form ts ≡ Form w) ↔ IsForm ts w) × ((at : Pos) → (read_form ts ≡ Leaves at) ↔ IsFirstBad ts at)

-- The places of words.

-- the names in a module's data types, in their order
abbrev pub words : Written → List Word
words w = flat_map (λ (d : DataItem). d.ty ∷ d.con ∷ d.fields) w.datas

abbrev pub places : List Word → List Pos
places ws = map (λ (w : Word). w.at) ws

abbrev pub written_at : Option PutSign → Pos → List Pos
written_at None at = at ∷ []
written_at (Some s) at = []

-- the places of the lexemes among the tokens
abbrev pub lexeme_places : List Token → List Pos
lexeme_places ts = flat_map (λ (t : Token). written_at t.put t.at) ts

-- Where the lexemes rise, so do the names of the module.
abbrev pub WordsRise : Type 0
WordsRise = (ts : List Token) (w : Written) → read_form ts ≡ Form w → AreRising (lexeme_places ts) → AreRising (places (words w))
