-- What a step leads to is what was left before it.
use Rattle.std.proofs.Common.{◌≡◌, ◌⊎◌, inl, inr, ℕ, Bool, true, false, cond, List, [], ◌∷◌, ◌++◌, map, Some, None, Option, refl, sym, subst, codes, append_assoc, append-nil}
use Rattle.mk_base.specs.declared.place.Pos.{Pos}
use Rattle.hs_syntax.specs.declared.token.Token.{Token}
use Rattle.plain_form.specs.declared.form.Word.{Word}
use Rattle.plain_form.specs.declared.form.DataItem.{DataItem}
use Rattle.plain_form.specs.declared.form.Written.{Written}
use Rattle.plain_form.specs.declared.state.Stage.{Stage}
use Rattle.plain_form.specs.declared.state.Stage.TheVariants as stage
use Rattle.plain_form.specs.declared.state.State.{State}
use Rattle.plain_form.specs.Words.{is_con}
use Rattle.plain_form.specs.Form.{Fixed, Module, Imported, Placed, Close, Fits, is_text, is_name, is_module, is_import, is_next, opened, is_close, word_of, at_stage, with_data, with_field, on, at_open, at_part, at_data, behind_part, step_at}
use Rattle.plain_form.proofs.Fits.{fixed_of, placed_of, module_of, import_of, open_of, close_of, next_of}
use Rattle.plain_form.proofs.Left.{Left, LeftOf, RestLeft, PartLeft, HeadLeft, AtEnd, add_data, item_of, rest_more, head_more, rest_end, rest_next, part_empty, part_import, part_data}

pub on_some : (b : Bool) (s n : State) → on b s ≡ Some n → (b ≡ true) × (s ≡ n)
on_some true s n h = (refl, cc)
on_some false s n h = absurd (cc)

pub pick : (b : Bool) (s n : State) (o : Option State) → cond b (Some s) o ≡ Some n → ((b ≡ true) × (s ≡ n)) ⊎ (o ≡ Some n)
pick true s n o h = inl (refl, cc)
pick false s n o h = inr h

-- What stands behind a state stands behind the state that it equals.
moved : (s n : State) (ts : List Token) (w : Written) → s ≡ n → LeftOf n ts w → LeftOf s ts w
moved s n ts w e l = subst (λ k. LeftOf k ts w) (sym e) l

sound_text : (s n : State) (g : Stage) (text : List ℕ) (t : Token) (ts : List Token) (w : Written) → on (is_text text t) (at_stage s g) ≡ Some n → LeftOf n ts w → Fits (Fixed text) t × Left s.put s.written g ts w
sound_text s n g text t ts w h l =
    let e : (is_text text t ≡ true) × (at_stage s g ≡ n) = on_some (is_text text t) (at_stage s g) n h in (fixed_of text t e.0, moved (at_stage s g) n ts w e.1 l)

pub opened_to : (s n : State) (o : Option Bool) → at_open s o ≡ Some n → (put : Bool) × (o ≡ Some put) × (record { stage = stage.Body; put = put; written = s.written } ≡ n)
opened_to s n (Some put) h = (put, refl, cc)
opened_to s n None h = absurd (cc)

sound_open : (s n : State) (t : Token) (ts : List Token) (w : Written) → at_open s (opened t.put t.kind t.text) ≡ Some n → LeftOf n ts w → HeadLeft s.written [] (t ∷ ts) w
sound_open s n t ts w h l =
    let e : (put : Bool) × (opened t.put t.kind t.text ≡ Some put) × (record { stage = stage.Body; put = put; written = s.written } ≡ n) = opened_to s n (opened t.put t.kind t.text) h in
    let m : PartLeft true e.0 s.written ts w = moved (record { stage = stage.Body; put = e.0; written = s.written }) n ts w e.2 l in
    (e.0, m.0, m.1, m.2, (open_of e.0 t e.1, m.3), m.4)

sound_end : (s k n : State) (t : Token) (ts : List Token) (w : Written) → on (is_close s t) k ≡ Some n → LeftOf n ts w → Fits (Close s.put) t × LeftOf k ts w
sound_end s k n t ts w h l = let e : (is_close s t ≡ true) × (k ≡ n) = on_some (is_close s t) k n h in (close_of s.put t e.0, moved k n ts w e.1 l)

-- Behind a part; the stage of the next one says whether imports may stand there.
sound_behind : (b : Bool) (s n : State) (next : Stage) (t : Token) (ts : List Token) (w : Written) → (Left s.put s.written next ts w → PartLeft b s.put s.written ts w) → behind_part s next t ≡ Some n → LeftOf n ts w
    → RestLeft b s.put s.written [] (t ∷ ts) w
sound_behind b s n next t ts w part h l =
    elim (pick (is_next t) (at_stage s next) n (on (is_close s t) (at_stage s stage.End)) h) as (λ c. RestLeft b s.put s.written [] (t ∷ ts) w) [
      | inl e ↦ rest_next b s.put s.written t ts w (next_of t e.0) (part (moved (at_stage s next) n ts w e.1 l))
      | inr e ↦ let f : Fits (Close s.put) t × AtEnd s.written ts w = sound_end s (at_stage s stage.End) n t ts w e l in rest_end b s.put s.written t ts w f.0 f.1
    ]

sound_data : (b : Bool) (s n : State) (next : Stage) (t : Token) (ts : List Token) (w : Written) → (Left s.put s.written next ts w → PartLeft b s.put s.written ts w) → at_data s next t ≡ Some n → LeftOf n ts w
    → PartLeft b s.put s.written (t ∷ ts) w
sound_data b s n next t ts w part h l =
    elim (pick (is_text (codes "data") t) (at_stage s stage.DataType) n (behind_part s next t) h) as (λ c. PartLeft b s.put s.written (t ∷ ts) w) [
      | inl e ↦
          let m : Left s.put s.written stage.DataType ts w = moved (at_stage s stage.DataType) n ts w e.1 l in
          let d : DataItem = m.0 in
          part_data b s.put s.written d (t ∷ ts) w m.1 (
          rest_more false s.put (add_data s.written d) (Fixed (codes "data")) (Placed d.ty ∷ Fixed (codes "=") ∷ Placed d.con ∷ map Placed d.fields) t ts w (fixed_of (codes "data") t e.0) m.2
          )
      | inr e ↦ part_empty b s.put s.written (t ∷ ts) w (sound_behind b s n next t ts w part e l)
    ]

sound_part : (s n : State) (t : Token) (ts : List Token) (w : Written) → at_part s t ≡ Some n → LeftOf n ts w → PartLeft true s.put s.written (t ∷ ts) w
sound_part s n t ts w h l =
    elim (pick (is_text (codes "import") t) (at_stage s (stage.Import t.at)) n (at_data s stage.Body t) h) as (λ c. PartLeft true s.put s.written (t ∷ ts) w) [
      | inl e ↦
          let m : RestLeft true s.put s.written (Imported ∷ []) ts w = moved (at_stage s (stage.Import t.at)) n ts w e.1 l in
          part_import s.put s.written (t ∷ ts) w (rest_more true s.put s.written (Fixed (codes "import")) (Imported ∷ []) t ts w (fixed_of (codes "import") t e.0) m)
      | inr e ↦ sound_data true s n stage.Body t ts w (λ k. k) e l
    ]

sound_import : (s n : State) (at : Pos) (t : Token) (ts : List Token) (w : Written) → step_at s (stage.Import at) t ≡ Some n → LeftOf n ts w → RestLeft true s.put s.written (Imported ∷ []) (t ∷ ts) w
sound_import s n at t ts w h l =
    let e : (is_import t ≡ true) × (at_stage s (stage.Imported at) ≡ n) = on_some (is_import t) (at_stage s (stage.Imported at)) n h in
    rest_more true s.put s.written Imported [] t ts w (import_of t e.0) (moved (at_stage s (stage.Imported at)) n ts w e.1 l)

-- a name, and a stage behind it
sound_name : (s n : State) (g : Stage) (t : Token) (ts : List Token) (w : Written) → on (is_name t) (at_stage s g) ≡ Some n → LeftOf n ts w → (Fits (Placed (word_of t)) t × (is_con t.text ≡ true)) × Left s.put s.written g ts w
sound_name s n g t ts w h l = let e : (is_name t ≡ true) × (at_stage s g ≡ n) = on_some (is_name t) (at_stage s g) n h in (placed_of t e.0, moved (at_stage s g) n ts w e.1 l)

sound_type : (s n : State) (t : Token) (ts : List Token) (w : Written) → step_at s stage.DataType t ≡ Some n → LeftOf n ts w → Left s.put s.written stage.DataType (t ∷ ts) w
sound_type s n t ts w h l =
    let y : Word = word_of t in
    let e : (Fits (Placed y) t × (is_con t.text ≡ true)) × Left s.put s.written (stage.DataEquals y) ts w = sound_name s n (stage.DataEquals y) t ts w h l in
    let d : DataItem = item_of y e.1.0 e.1.1 in
    (d, (e.0.1, e.1.2, e.1.3), rest_more false s.put (add_data s.written d) (Placed y) (Fixed (codes "=") ∷ Placed d.con ∷ map Placed d.fields) t ts w e.0.0 e.1.4)

sound_equals : (s n : State) (ty : Word) (t : Token) (ts : List Token) (w : Written) → step_at s (stage.DataEquals ty) t ≡ Some n → LeftOf n ts w → Left s.put s.written (stage.DataEquals ty) (t ∷ ts) w
sound_equals s n ty t ts w h l =
    let e : Fits (Fixed (codes "=")) t × Left s.put s.written (stage.DataCon ty) ts w = sound_text s n (stage.DataCon ty) (codes "=") t ts w h l in
    (e.1.0, e.1.1, e.1.2, e.1.3, rest_more false s.put (add_data s.written (item_of ty e.1.0 e.1.1)) (Fixed (codes "=")) (Placed e.1.0 ∷ map Placed e.1.1) t ts w e.0 e.1.4)

sound_con : (s n : State) (ty : Word) (t : Token) (ts : List Token) (w : Written) → step_at s (stage.DataCon ty) t ≡ Some n → LeftOf n ts w → Left s.put s.written (stage.DataCon ty) (t ∷ ts) w
sound_con s n ty t ts w h l =
    let y : Word = word_of t in
    let e : (Fits (Placed y) t × (is_con t.text ≡ true)) × Left s.put s.written (stage.Fields (item_of ty y [])) ts w = sound_name s n (stage.Fields (item_of ty y [])) t ts w h l in
    (y, e.1.0, e.0.1, e.1.1, rest_more false s.put (add_data s.written (item_of ty y e.1.0)) (Placed y) (map Placed e.1.0) t ts w e.0.0 e.1.2)

sound_fields : (s n : State) (d : DataItem) (t : Token) (ts : List Token) (w : Written) → step_at s (stage.Fields d) t ≡ Some n → LeftOf n ts w → Left s.put s.written (stage.Fields d) (t ∷ ts) w
sound_fields s n d t ts w h l =
    let y : Word = word_of t in
    elim (pick (is_name t) (at_stage s (stage.Fields (with_field d y))) n (behind_part (with_data s d) stage.Datas t) h) as (λ c. Left s.put s.written (stage.Fields d) (t ∷ ts) w) [
      | inl e ↦
          let m : Left s.put s.written (stage.Fields (with_field d y)) ts w = moved (at_stage s (stage.Fields (with_field d y))) n ts w e.1 l in
          let f : Fits (Placed y) t × (is_con t.text ≡ true) = placed_of t e.0 in
          let k : RestLeft false s.put (add_data s.written (item_of d.ty d.con (d.fields ++ y ∷ m.0))) (map Placed m.0) ts w =
          subst (λ (fs : List Word). RestLeft false s.put (add_data s.written (item_of d.ty d.con fs)) (map Placed m.0) ts w) (append_assoc d.fields (y ∷ []) m.0) m.2 in
          (y ∷ m.0, (f.1, m.1), rest_more false s.put (add_data s.written (item_of d.ty d.con (d.fields ++ y ∷ m.0))) (Placed y) (map Placed m.0) t ts w f.0 k)
      | inr e ↦
          let k : RestLeft false s.put (add_data s.written d) [] (t ∷ ts) w = sound_behind false (with_data s d) n stage.Datas t ts w (λ m. m) e l in
          ([], tt, subst (λ (fs : List Word). RestLeft false s.put (add_data s.written (item_of d.ty d.con fs)) [] (t ∷ ts) w) (sym (append-nil d.fields)) k)
    ]

sound_at : (s n : State) (g : Stage) (t : Token) (ts : List Token) (w : Written) → step_at s g t ≡ Some n → LeftOf n ts w → Left s.put s.written g (t ∷ ts) w
sound_at s n stage.Start t ts w h l =
    let e : Fits (Fixed (codes "module")) t × Left s.put s.written stage.Name ts w = sound_text s n stage.Name (codes "module") t ts w h l in
    head_more s.written (Fixed (codes "module")) (Module ∷ Fixed (codes "where") ∷ []) t ts w e.0 e.1
sound_at s n stage.Name t ts w h l =
    let e : (is_module t ≡ true) × (at_stage s stage.Where ≡ n) = on_some (is_module t) (at_stage s stage.Where) n h in
    head_more s.written Module (Fixed (codes "where") ∷ []) t ts w (module_of t e.0) (moved (at_stage s stage.Where) n ts w e.1 l)
sound_at s n stage.Where t ts w h l =
    let e : Fits (Fixed (codes "where")) t × Left s.put s.written stage.Open ts w = sound_text s n stage.Open (codes "where") t ts w h l in
    head_more s.written (Fixed (codes "where")) [] t ts w e.0 e.1
sound_at s n stage.Open t ts w h l = sound_open s n t ts w h l
sound_at s n stage.Body t ts w h l = sound_part s n t ts w h l
sound_at s n (stage.Import at) t ts w h l = sound_import s n at t ts w h l
sound_at s n (stage.Imported at) t ts w h l = sound_behind true s n stage.Body t ts w (λ k. k) h l
sound_at s n stage.Datas t ts w h l = sound_data false s n stage.Datas t ts w (λ k. k) h l
sound_at s n stage.DataType t ts w h l = sound_type s n t ts w h l
sound_at s n (stage.DataEquals ty) t ts w h l = sound_equals s n ty t ts w h l
sound_at s n (stage.DataCon ty) t ts w h l = sound_con s n ty t ts w h l
sound_at s n (stage.Fields d) t ts w h l = sound_fields s n d t ts w h l
sound_at s n stage.End t ts w h l = absurd (cc)

pub sound : (s n : State) (t : Token) (ts : List Token) (w : Written) → step_at s s.stage t ≡ Some n → LeftOf n ts w → LeftOf s (t ∷ ts) w
sound s n t ts w h l = sound_at s n s.stage t ts w h l
