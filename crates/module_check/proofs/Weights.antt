-- The sizes of a module that is read: it has no more names than its source has lexemes, and none is longer than them.
use Rattle.std.proofs.Common.{◌≡◌, ℕ, suc, ◌+◌, ◌*◌, ◌<◌, ◌≤◌, Bool, true, false, not, List, [], ◌∷◌, ◌++◌, length, refl, ap, sym, ◌∙◌, cond, Some, None, arith, length-append}
use Rattle.std.specs.Prelude.{Result, Ok, Err, codes, sum_by}
use Rattle.std.specs.declared.option.Option.{Option}
use Rattle.std.specs.List.{AllByRecursion}
use Rattle.std.proofs.lemmas.List.Sums.{sum_by-cons, sum_by-append}
use Rattle.mk_base.specs.declared.name.Node.{Node}
use Rattle.mk_base.specs.declared.place.Pos.{Pos}
use Rattle.mk_base.specs.declared.diag.Diag.{Diag}
use Rattle.build_theory.proofs.Lists.{differ}
use Rattle.hs_syntax.specs.declared.token.Token.{Token}
use Rattle.hs_syntax.specs.declared.token.PutSign.{PutSign}
use Rattle.hs_lex.specs.Slow.{read_source}
use Rattle.hs_layout.specs.Braced.{braced}
use Rattle.plain_form.specs.declared.form.Word.{Word}
use Rattle.plain_form.specs.declared.form.DataItem.{DataItem}
use Rattle.plain_form.specs.declared.form.Written.{Written}
use Rattle.plain_form.specs.declared.form.Reading.{Reading}
use Rattle.plain_form.specs.declared.state.Stage.{Stage}
use Rattle.plain_form.specs.declared.state.Stage.TheVariants as stage
use Rattle.plain_form.specs.declared.state.State.{State}
use Rattle.mk_base.specs.Places.{first_place}
use Rattle.plain_form.specs.Form.{is_pragma, without_pragmas, is_text, is_word, is_name, is_module, is_import, opened, is_next, word_of, at_stage, with_data, with_field, on, at_open, is_close, behind_part, at_data, at_part, step_at, step, told, ended, go, read_from, start, read_form}
use Rattle.unbuilt_forms.specs.Unbuilt.{unbuilt, formed}
use Rattle.module_check.specs.Check.{of_lexemes, items_of}
use Rattle.module_check.proofs.Bounds.{IsShortToken, count_of, count, lexemes, AreFew, lexemes_few, laid_out}
use Rattle.module_check.proofs.Alls.{all_last}

abbrev pub fields_in : List DataItem → ℕ
fields_in ds = sum_by (λ (d : DataItem). length d.fields) ds

-- how many names a module has
abbrev pub weight : Written → ℕ
weight w = 2 * length w.datas + fields_in w.datas

-- how many names of an item are read that isn't whole
abbrev pending : Stage → ℕ
pending (stage.DataEquals ty) = 1
pending (stage.DataCon ty) = 1
pending (stage.Fields d) = 2 + length d.fields
pending g = 0

abbrev pub IsShortWord : ℕ → Word → Type 0
IsShortWord b w = length w.text ≤ b

abbrev pub IsShortItem : ℕ → DataItem → Type 0
IsShortItem b d = (length d.ty.text ≤ b) × (length d.con.text ≤ b) × AllByRecursion (IsShortWord b) d.fields

abbrev IsShortStage : ℕ → Stage → Type 0
IsShortStage b (stage.DataEquals ty) = IsShortWord b ty
IsShortStage b (stage.DataCon ty) = IsShortWord b ty
IsShortStage b (stage.Fields d) = IsShortItem b d
IsShortStage b g = Unit {0}

-- a module of at most k names, none longer than b
abbrev pub IsSmall : ℕ → ℕ → Written → Type 0
IsSmall b k w = (weight w ≤ k) × AllByRecursion (IsShortItem b) w.datas

-- at most k names so far, none longer than b
abbrev IsHeld : ℕ → ℕ → Written → Stage → Type 0
IsHeld b k w g = (weight w + pending g ≤ k) × AllByRecursion (IsShortItem b) w.datas × IsShortStage b g

abbrev Holds : ℕ → ℕ → Option State → Type 0
Holds b k (Some n) = IsHeld b k n.written n.stage
Holds b k None = Unit {0}

named_counts : (o : Option PutSign) (text : List ℕ) → is_word o text ≡ true → count_of o ≡ 1
named_counts None text e = refl
named_counts (Some s) text e = absurd (differ (sym e))

module _ (b : ℕ) (t : Token) (short : IsShortToken b t) where
  -- behind a token that is no name
  plain_held : (w : Written) (k : ℕ) (g : Stage) → pending g ≡ 0 → IsShortStage b g → IsSmall b k w → IsHeld b (k + count t) w g
  plain_held w k g e q i = let n : weight w ≤ k = i.0 in (omega arith, i.1, q)

  on_held : (k : ℕ) (c : Bool) (n : State) → IsHeld b k n.written n.stage → Holds b k (on c n)
  on_held k true n i = i
  on_held k false n i = tt

  either_held : (k : ℕ) (c : Bool) (n : State) (o : Option State) → IsHeld b k n.written n.stage → Holds b k o → Holds b k (cond c (Some n) o)
  either_held k true n o i j = i
  either_held k false n o i j = j

  -- behind a name
  name_held : (k : ℕ) (c : Bool) (n : State) → c ≡ is_name t → (count t ≡ 1 → IsHeld b k n.written n.stage) → Holds b k (on c n)
  name_held k true n e i = i (named_counts t.put t.text (sym e))
  name_held k false n e i = tt

  open_held : (k : ℕ) (s : State) (o : Option Bool) → IsSmall b k s.written → Holds b (k + count t) (at_open s o)
  open_held k s (Some put) i = plain_held s.written k stage.Body refl tt i
  open_held k s None i = tt

  part_held : (k : ℕ) (s : State) (next : Stage) → pending next ≡ 0 → IsShortStage b next → IsSmall b k s.written → Holds b (k + count t) (behind_part s next t)
  part_held k s next e q i =
      either_held (k + count t) (is_next t) (at_stage s next) (on (is_close s t) (at_stage s stage.End)) (plain_held s.written k next e q i)
      (on_held (k + count t) (is_close s t) (at_stage s stage.End) (plain_held s.written k stage.End refl tt i))

  data_held : (k : ℕ) (s : State) (next : Stage) → pending next ≡ 0 → IsShortStage b next → IsSmall b k s.written → Holds b (k + count t) (at_data s next t)
  data_held k s next e q i =
      either_held (k + count t) (is_text (codes "data") t) (at_stage s stage.DataType) (behind_part s next t) (plain_held s.written k stage.DataType refl tt i) (part_held k s next e q i)

  first_held : (k : ℕ) (s : State) → IsSmall b k s.written → Holds b (k + count t) (at_part s t)
  first_held k s i =
      either_held (k + count t) (is_text (codes "import") t) (at_stage s (stage.Import t.at)) (at_data s stage.Body t) (plain_held s.written k (stage.Import t.at) refl tt i) (data_held k s stage.Body refl tt i)

  fields_more : (ds : List DataItem) (d : DataItem) → (length (ds ++ d ∷ []) ≡ length ds + 1) × (fields_in (ds ++ d ∷ []) ≡ fields_in ds + (length d.fields + 0))
  fields_more ds d =
      let sum : fields_in (ds ++ d ∷ []) ≡ fields_in ds + fields_in (d ∷ []) = sum_by-append (λ (d : DataItem). length d.fields) ds (d ∷ []) in
      let one : fields_in (d ∷ []) ≡ length d.fields + 0 = sum_by-cons (λ (d : DataItem). length d.fields) d [] in
      (length-append ds (d ∷ []), sum ∙ ap (λ n. fields_in ds + n) one)

  -- with an item that is whole
  whole_small : (k : ℕ) (s : State) (d : DataItem) → IsHeld b k s.written (stage.Fields d) → IsSmall b k (with_data s d).written
  whole_small k s d i =
      let m = fields_more s.written.datas d in
      let l : length (s.written.datas ++ d ∷ []) ≡ length s.written.datas + 1 = m.0 in
      let f : fields_in (s.written.datas ++ d ∷ []) ≡ fields_in s.written.datas + (length d.fields + 0) = m.1 in
      let n : (2 * length s.written.datas + fields_in s.written.datas) + (2 + length d.fields) ≤ k = i.0 in
      (omega arith, all_last (IsShortItem b) s.written.datas d i.1 i.2)

  field_held : (k : ℕ) (s : State) (c : Bool) (d : DataItem) → c ≡ is_name t → IsHeld b k s.written (stage.Fields d)
      → Holds b (k + count t) (cond c (Some (at_stage s (stage.Fields (with_field d (word_of t))))) (behind_part (with_data s d) stage.Datas t))
  field_held k s true d e i =
      let one : count t ≡ 1 = named_counts t.put t.text (sym e) in
      let n : weight s.written + (2 + length d.fields) ≤ k = i.0 in
      let l : length (d.fields ++ word_of t ∷ []) ≡ length d.fields + 1 = length-append d.fields (word_of t ∷ []) in
      (omega arith, i.1, (i.2.0, i.2.1, all_last (IsShortWord b) d.fields (word_of t) i.2.2 short))
  field_held k s false d e i = part_held k (with_data s d) stage.Datas refl tt (whole_small k s d i)

  -- what is held is small
  held_small : (k : ℕ) (w : Written) (g : Stage) → IsHeld b k w g → IsSmall b k w
  held_small k w g i = let n : weight w + pending g ≤ k = i.0 in (omega arith, i.1)

  step_held : (k : ℕ) (s : State) (g : Stage) → IsHeld b k s.written g → Holds b (k + count t) (step_at s g t)
  step_held k s stage.Start i = on_held (k + count t) (is_text (codes "module") t) (at_stage s stage.Name) (plain_held s.written k stage.Name refl tt (held_small k s.written stage.Start i))
  step_held k s stage.Name i = on_held (k + count t) (is_module t) (at_stage s stage.Where) (plain_held s.written k stage.Where refl tt (held_small k s.written stage.Name i))
  step_held k s stage.Where i = on_held (k + count t) (is_text (codes "where") t) (at_stage s stage.Open) (plain_held s.written k stage.Open refl tt (held_small k s.written stage.Where i))
  step_held k s stage.Open i = open_held k s (opened t.put t.kind t.text) (held_small k s.written stage.Open i)
  step_held k s stage.Body i = first_held k s (held_small k s.written stage.Body i)
  step_held k s (stage.Import at) i = on_held (k + count t) (is_import t) (at_stage s (stage.Imported at)) (plain_held s.written k (stage.Imported at) refl tt (held_small k s.written (stage.Import at) i))
  step_held k s (stage.Imported at) i = part_held k s stage.Body refl tt (held_small k s.written (stage.Imported at) i)
  step_held k s stage.Datas i = data_held k s stage.Datas refl tt (held_small k s.written stage.Datas i)
  step_held k s stage.DataType i =
      name_held (k + count t) (is_name t) (at_stage s (stage.DataEquals (word_of t))) refl
      (λ one. let n : weight s.written + 0 ≤ k = i.0 in (omega arith, i.1, short))
  step_held k s (stage.DataEquals ty) i =
      on_held (k + count t) (is_text (codes "=") t) (at_stage s (stage.DataCon ty)) (let n : weight s.written + 1 ≤ k = i.0 in (omega arith, i.1, i.2))
  step_held k s (stage.DataCon ty) i =
      name_held (k + count t) (is_name t) (at_stage s (stage.Fields (record { ty = ty; con = word_of t; fields = [] }))) refl
      (λ one. let n : weight s.written + 1 ≤ k = i.0 in (omega arith, i.1, (i.2, short, tt)))
  step_held k s (stage.Fields d) i = field_held k s (is_name t) d refl i
  step_held k s stage.End i = tt

abbrev pub AreSmall : ℕ → ℕ → Result Written Diag → Type 0
AreSmall b k (Ok w) = IsSmall b k w
AreSmall b k (Err d) = Unit {0}

ended_small : (b k : ℕ) (s : State) (g : Stage) (last : Pos) → IsHeld b k s.written g → AreSmall b k (formed (ended s g last))
ended_small b k s stage.End last i = let n : weight s.written + 0 ≤ k = i.0 in (omega arith, i.1)
ended_small b k s stage.Start last i = tt
ended_small b k s stage.Name last i = tt
ended_small b k s stage.Where last i = tt
ended_small b k s stage.Open last i = tt
ended_small b k s stage.Body last i = tt
ended_small b k s (stage.Import at) last i = tt
ended_small b k s (stage.Imported at) last i = tt
ended_small b k s stage.Datas last i = tt
ended_small b k s stage.DataType last i = tt
ended_small b k s (stage.DataEquals ty) last i = tt
ended_small b k s (stage.DataCon ty) last i = tt
ended_small b k s (stage.Fields d) last i = tt

go_small : (b k l : ℕ) (at : Pos) (o : Option State) (f : State → Reading) → Holds b k o → ((n : State) → IsHeld b k n.written n.stage → AreSmall b l (formed (f n))) → AreSmall b l (formed (go at o f))
go_small b k l at (Some n) f h on_ = on_ n h
go_small b k l at None f h on_ = tt

from_small : (b : ℕ) (ts : List Token) (k l : ℕ) (s : State) (last : Pos) → k + lexemes ts ≤ l → AllByRecursion (IsShortToken b) ts → IsHeld b k s.written s.stage → AreSmall b l (formed (read_from s last ts))
from_small b [] k l s last m h i = ended_small b l s s.stage last (let n : weight s.written + pending s.stage ≤ k = i.0 in (omega arith, i.1, i.2))
from_small b (t ∷ ts) k l s last m h i =
    let sum : lexemes (t ∷ ts) ≡ count t + lexemes ts = sum_by-cons count t ts in
    go_small b (k + count t) l (told s.stage t) (step s t) (λ n. read_from n t.at ts) (step_held b t h.0 k s s.stage i)
    (λ n j. from_small b ts (k + count t) l n t.at (omega arith) h.1 j)

-- pragmas may be left out
fewer_by : (p : Bool) (t : Token) (ts us : List Token) → lexemes us ≤ lexemes ts → lexemes (cond (not p) (t ∷ us) us) ≤ lexemes (t ∷ ts)
fewer_by true t ts us h = let sum : lexemes (t ∷ ts) ≡ count t + lexemes ts = sum_by-cons count t ts in omega arith
fewer_by false t ts us h =
    let sum : lexemes (t ∷ ts) ≡ count t + lexemes ts = sum_by-cons count t ts in
    let other : lexemes (t ∷ us) ≡ count t + lexemes us = sum_by-cons count t us in
    omega arith

fewer_lexemes : (ts : List Token) → lexemes (without_pragmas ts) ≤ lexemes ts
fewer_lexemes [] = omega arith
fewer_lexemes (t ∷ ts) = fewer_by (is_pragma t.kind) t ts (without_pragmas ts) (fewer_lexemes ts)

short_by : (b : ℕ) (p : Bool) (t : Token) (us : List Token) → IsShortToken b t → AllByRecursion (IsShortToken b) us → AllByRecursion (IsShortToken b) (cond (not p) (t ∷ us) us)
short_by b true t us h k = k
short_by b false t us h k = (h, k)

short_lexemes : (b : ℕ) (ts : List Token) → AllByRecursion (IsShortToken b) ts → AllByRecursion (IsShortToken b) (without_pragmas ts)
short_lexemes b [] h = tt
short_lexemes b (t ∷ ts) h = short_by b (is_pragma t.kind) t (without_pragmas ts) h.0 (short_lexemes b ts h.1)

refused_small : (b k : ℕ) (c : Bool) (d : Diag) (r : Result Written Diag) → AreSmall b k r → AreSmall b k (cond c (Err d) r)
refused_small b k true d r h = tt
refused_small b k false d r h = h

tokens_small : (b k : ℕ) (n : Node) (ts : List Token) → length ts ≤ k → AllByRecursion (IsShortToken b) ts → AreSmall b k (of_lexemes n (Ok ts))
tokens_small b k n ts few short =
    let laid = laid_out b ts short in
    let l : lexemes (braced ts) ≤ length ts = laid.0 in
    let fewer : lexemes (without_pragmas (braced ts)) ≤ lexemes (braced ts) = fewer_lexemes (braced ts) in
    refused_small b k n.boot (unbuilt first_place) (formed (read_form (braced ts)))
    (from_small b (without_pragmas (braced ts)) 0 k start first_place (omega arith) (short_lexemes b (braced ts) laid.1) (omega arith, tt, tt))

lexed_small : (b : ℕ) (n : Node) (o : Result (List Token) Pos) → AreFew (suc b) b o → AreSmall b b (of_lexemes n o)
lexed_small b n (Ok ts) h = let few : length ts < suc b = h.0 in tokens_small b b n ts (omega arith) h.1
lexed_small b n (Err at) h = tt

pub items_small : (n : Node) (source : List ℕ) → AreSmall (length source) (length source) (items_of n source)
items_small n source = lexed_small (length source) n (read_source source) (lexemes_few source)
