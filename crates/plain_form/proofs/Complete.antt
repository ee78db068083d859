-- What is left before a token is left behind its step.
use Rattle.std.proofs.Common.{◌≡◌, inl, inr, ℕ, Bool, true, false, cond, List, [], ◌∷◌, ◌++◌, map, Some, Option, refl, sym, ap, subst, ◌∙◌, codes, append_assoc, append-nil}
use Rattle.mk_base.specs.declared.place.Pos.{Pos}
use Rattle.hs_syntax.specs.declared.token.Token.{Token}
use Rattle.plain_form.specs.declared.form.Word.{Word}
use Rattle.plain_form.specs.declared.form.DataItem.{DataItem}
use Rattle.plain_form.specs.declared.form.Written.{Written}
use Rattle.plain_form.specs.declared.state.Stage.{Stage}
use Rattle.plain_form.specs.declared.state.Stage.TheVariants as stage
use Rattle.plain_form.specs.declared.state.State.{State}
use Rattle.mk_base.specs.Texts.{same_text}
use Rattle.plain_form.specs.Words.{is_con}
use Rattle.plain_form.specs.Form.{Mark, Fixed, Module, Imported, Placed, Fits, Part, Empty, Import, Data, AreParts, AllFit, part_marks, datas_of, is_text, is_name, is_module, is_import, is_next, opened, is_close, word_of, at_stage, with_data, with_field, on, at_open, at_part, at_data, behind_part, step_at}
use Rattle.plain_form.proofs.Fits.{fixed_is, fixed_not, name_is, module_is, import_is, open_is, close_is, next_is, close_no_next, close_no_text, next_no_text, close_no_name, next_no_name}
use Rattle.plain_form.proofs.Left.{Left, LeftOf, RestLeft, PartLeft, HeadLeft, add_data, item_of, follow, rest_less, head_less, rest_split, data_rest}

-- the step leads to a state behind which these tokens are what is left
abbrev Leads : Option State → List Token → Written → Type 0
Leads o ts w = (n : State) × (o ≡ Some n) × LeftOf n ts w

leads_on : (s : State) (g : Stage) (b : Bool) (ts : List Token) (w : Written) → b ≡ true → Left s.put s.written g ts w → Leads (on b (at_stage s g)) ts w
leads_on s g b ts w h l = (at_stage s g, ap (λ c. on c (at_stage s g)) h, l)

leads_text : (s : State) (g : Stage) (text : List ℕ) (t : Token) (ts : List Token) (w : Written) → Fits (Fixed text) t → Left s.put s.written g ts w → Leads (on (is_text text t) (at_stage s g)) ts w
leads_text s g text t ts w h l = leads_on s g (is_text text t) ts w (fixed_is text t h) l

leads_open : (s : State) (t : Token) (ts : List Token) (w : Written) → HeadLeft s.written [] (t ∷ ts) w → Leads (at_open s (opened t.put t.kind t.text)) ts w
leads_open s t ts w (put, p, ps, a, f, i) = (record { stage = stage.Body; put = put; written = s.written }, ap (at_open s) (open_is put t f.0), (p, ps, a, f.1, i))

-- a step that passes over a test that fails
leads_past : (b : Bool) (s : State) (o : Option State) (ts : List Token) (w : Written) → b ≡ false → Leads o ts w → Leads (cond b (Some s) o) ts w
leads_past b s o ts w h l = (l.0, ap (λ c. cond c (Some s) o) h ∙ l.1, l.2)

leads_first : (b : Bool) (s : State) (o : Option State) (ts : List Token) (w : Written) → b ≡ true → LeftOf s ts w → Leads (cond b (Some s) o) ts w
leads_first b s o ts w h l = (s, ap (λ c. cond c (Some s) o) h, l)

-- Behind a part; the stage of the next one says whether imports may stand there.
leads_behind : (b : Bool) (s : State) (next : Stage) (t : Token) (ts : List Token) (w : Written) → (PartLeft b s.put s.written ts w → Left s.put s.written next ts w) → RestLeft b s.put s.written [] (t ∷ ts) w
    → Leads (behind_part s next t) ts w
leads_behind b s next t ts w part l =
    let last : Option State = on (is_close s t) (at_stage s stage.End) in
    elim (rest_split b s.put s.written t ts w l) as (λ c. Leads (behind_part s next t) ts w) [
      | inl e ↦ leads_past (is_next t) (at_stage s next) last ts w (close_no_next s.put t e.0) (leads_on s stage.End (is_close s t) ts w (close_is s.put t e.0) e.1)
      | inr e ↦ leads_first (is_next t) (at_stage s next) last ts w (next_is t e.0) (part e.1)
    ]

-- what stands behind a part is neither a lexeme of another text nor a name

no_text : (b put : Bool) (v : Written) (text : List ℕ) (t : Token) (ts : List Token) (w : Written) → same_text (codes "}") text ≡ false → same_text (codes ";") text ≡ false → RestLeft b put v [] (t ∷ ts) w → is_text text t ≡ false
no_text b put v text t ts w h i l =
    elim (rest_split b put v t ts w l) as (λ c. is_text text t ≡ false) [ inl e ↦ close_no_text put text t e.0 h | inr e ↦ next_no_text text t e.0 i ]

no_name : (b put : Bool) (v : Written) (t : Token) (ts : List Token) (w : Written) → RestLeft b put v [] (t ∷ ts) w → is_name t ≡ false
no_name b put v t ts w l = elim (rest_split b put v t ts w l) as (λ c. is_name t ≡ false) [ inl e ↦ close_no_name put t e.0 | inr e ↦ next_no_name t e.0 ]

-- Where a part begins.

leads_empty : (b : Bool) (s : State) (next : Stage) (t : Token) (ts : List Token) (w : Written) → (PartLeft b s.put s.written ts w → Left s.put s.written next ts w) → RestLeft b s.put s.written [] (t ∷ ts) w
    → Leads (at_data s next t) ts w
leads_empty b s next t ts w part l =
    leads_past (is_text (codes "data") t) (at_stage s stage.DataType) (behind_part s next t) ts w (no_text b s.put s.written (codes "data") t ts w refl refl l) (leads_behind b s next t ts w part l)

leads_item : (s : State) (next : Stage) (d : DataItem) (ps : List Part) (t : Token) (ts : List Token) (w : Written) → AreParts true (Data d ∷ ps) → AllFit (part_marks (Data d) ++ follow s.put ps) (t ∷ ts) → w.datas ≡ s.written.datas ++ datas_of (Data d ∷ ps)
    → Leads (at_data s next t) ts w
leads_item s next d ps t ts w a f i =
    let ms : List Mark = Placed d.ty ∷ Fixed (codes "=") ∷ Placed d.con ∷ map Placed d.fields in
    let v : Written = add_data s.written d in
    let e : Fits (Fixed (codes "data")) t × RestLeft false s.put v ms ts w = rest_less false s.put v (Fixed (codes "data")) ms t ts w (data_rest s.put s.written d ps (t ∷ ts) w a.1 f i) in
    leads_first (is_text (codes "data") t) (at_stage s stage.DataType) (behind_part s next t) ts w (fixed_is (codes "data") t e.0) (d, a.0, e.1)

leads_part : (s : State) (t : Token) (ts : List Token) (w : Written) → PartLeft true s.put s.written (t ∷ ts) w → Leads (at_part s t) ts w
leads_part s t ts w (Empty, ps, a, f, i) =
    let l : RestLeft true s.put s.written [] (t ∷ ts) w = (ps, a, f, i) in
    leads_past (is_text (codes "import") t) (at_stage s (stage.Import t.at)) (at_data s stage.Body t) ts w (no_text true s.put s.written (codes "import") t ts w refl refl l) (leads_empty true s stage.Body t ts w (λ k. k) l)
leads_part s t ts w (Import, ps, a, f, i) =
    let e : Fits (Fixed (codes "import")) t × RestLeft true s.put s.written (Imported ∷ []) ts w = rest_less true s.put s.written (Fixed (codes "import")) (Imported ∷ []) t ts w (ps, a.1, f, i) in
    leads_first (is_text (codes "import") t) (at_stage s (stage.Import t.at)) (at_data s stage.Body t) ts w (fixed_is (codes "import") t e.0) e.1
leads_part s t ts w (Data d, ps, a, f, i) =
    leads_past (is_text (codes "import") t) (at_stage s (stage.Import t.at)) (at_data s stage.Body t) ts w (fixed_not (codes "data") (codes "import") t f.0 refl) (leads_item s stage.Body d ps t ts w a f i)

leads_data : (s : State) (t : Token) (ts : List Token) (w : Written) → PartLeft false s.put s.written (t ∷ ts) w → Leads (at_data s stage.Datas t) ts w
leads_data s t ts w (Empty, ps, a, f, i) = leads_empty false s stage.Datas t ts w (λ k. k) (ps, a, f, i)
leads_data s t ts w (Import, ps, a, f, i) = absurd (let e : false ≡ true = a.0 in cc)
leads_data s t ts w (Data d, ps, a, f, i) = leads_item s stage.Datas d ps t ts w a f i

-- Names.

name_of : (y : Word) (t : Token) → Fits (Placed y) t → is_con y.text ≡ true → is_name t ≡ true
name_of y t h i = name_is t h.0 (ap (λ (v : Word). is_con v.text) h.1 ∙ i)

leads_import : (s : State) (at : Pos) (t : Token) (ts : List Token) (w : Written) → RestLeft true s.put s.written (Imported ∷ []) (t ∷ ts) w → Leads (step_at s (stage.Import at) t) ts w
leads_import s at t ts w l =
    let e : Fits Imported t × RestLeft true s.put s.written [] ts w = rest_less true s.put s.written Imported [] t ts w l in leads_on s (stage.Imported at) (is_import t) ts w (import_is t e.0) e.1

leads_type : (s : State) (t : Token) (ts : List Token) (w : Written) → Left s.put s.written stage.DataType (t ∷ ts) w → Leads (step_at s stage.DataType t) ts w
leads_type s t ts w (d, id, l) =
    let ms : List Mark = Fixed (codes "=") ∷ Placed d.con ∷ map Placed d.fields in
    let e : Fits (Placed d.ty) t × RestLeft false s.put (add_data s.written d) ms ts w = rest_less false s.put (add_data s.written d) (Placed d.ty) ms t ts w l in
    let k : RestLeft false s.put (add_data s.written (item_of (word_of t) d.con d.fields)) ms ts w =
    subst (λ (v : Word). RestLeft false s.put (add_data s.written (item_of v d.con d.fields)) ms ts w) (sym e.0.1) e.1 in
    leads_on s (stage.DataEquals (word_of t)) (is_name t) ts w (name_of d.ty t e.0 id.0) (d.con, d.fields, id.1, id.2, k)

leads_equals : (s : State) (ty : Word) (t : Token) (ts : List Token) (w : Written) → Left s.put s.written (stage.DataEquals ty) (t ∷ ts) w → Leads (step_at s (stage.DataEquals ty) t) ts w
leads_equals s ty t ts w (con, fs, ic, ac, l) =
    let e : Fits (Fixed (codes "=")) t × RestLeft false s.put (add_data s.written (item_of ty con fs)) (Placed con ∷ map Placed fs) ts w =
    rest_less false s.put (add_data s.written (item_of ty con fs)) (Fixed (codes "=")) (Placed con ∷ map Placed fs) t ts w l in
    leads_text s (stage.DataCon ty) (codes "=") t ts w e.0 (con, fs, ic, ac, e.1)

leads_con : (s : State) (ty : Word) (t : Token) (ts : List Token) (w : Written) → Left s.put s.written (stage.DataCon ty) (t ∷ ts) w → Leads (step_at s (stage.DataCon ty) t) ts w
leads_con s ty t ts w (con, fs, ic, ac, l) =
    let e : Fits (Placed con) t × RestLeft false s.put (add_data s.written (item_of ty con fs)) (map Placed fs) ts w =
    rest_less false s.put (add_data s.written (item_of ty con fs)) (Placed con) (map Placed fs) t ts w l in
    let k : RestLeft false s.put (add_data s.written (item_of ty (word_of t) fs)) (map Placed fs) ts w =
    subst (λ (v : Word). RestLeft false s.put (add_data s.written (item_of ty v fs)) (map Placed fs) ts w) (sym e.0.1) e.1 in
    leads_on s (stage.Fields (item_of ty (word_of t) [])) (is_name t) ts w (name_of con t e.0 ic) (fs, ac, k)

leads_fields : (s : State) (d : DataItem) (t : Token) (ts : List Token) (w : Written) → Left s.put s.written (stage.Fields d) (t ∷ ts) w → Leads (step_at s (stage.Fields d) t) ts w
leads_fields s d t ts w ([], ac, l) =
    let k : RestLeft false s.put (add_data s.written d) [] (t ∷ ts) w = subst (λ (fs : List Word). RestLeft false s.put (add_data s.written (item_of d.ty d.con fs)) [] (t ∷ ts) w) (append-nil d.fields) l in
    leads_past (is_name t) (at_stage s (stage.Fields (with_field d (word_of t)))) (behind_part (with_data s d) stage.Datas t) ts w (no_name false s.put (add_data s.written d) t ts w k) (
    leads_behind false (with_data s d) stage.Datas t ts w (λ m. m) k
    )
leads_fields s d t ts w (y ∷ ys, ac, l) =
    let e : Fits (Placed y) t × RestLeft false s.put (add_data s.written (item_of d.ty d.con (d.fields ++ y ∷ ys))) (map Placed ys) ts w =
    rest_less false s.put (add_data s.written (item_of d.ty d.con (d.fields ++ y ∷ ys))) (Placed y) (map Placed ys) t ts w l in
    let j : RestLeft false s.put (add_data s.written (item_of d.ty d.con (d.fields ++ word_of t ∷ ys))) (map Placed ys) ts w =
    subst (λ (v : Word). RestLeft false s.put (add_data s.written (item_of d.ty d.con (d.fields ++ v ∷ ys))) (map Placed ys) ts w) (sym e.0.1) e.1 in
    let k : RestLeft false s.put (add_data s.written (item_of d.ty d.con ((d.fields ++ word_of t ∷ []) ++ ys))) (map Placed ys) ts w =
    subst (λ (fs : List Word). RestLeft false s.put (add_data s.written (item_of d.ty d.con fs)) (map Placed ys) ts w) (sym (append_assoc d.fields (word_of t ∷ []) ys)) j in
    leads_first (is_name t) (at_stage s (stage.Fields (with_field d (word_of t)))) (behind_part (with_data s d) stage.Datas t) ts w (name_of y t e.0 ac.0) (ys, ac.1, k)

leads_at : (s : State) (g : Stage) (t : Token) (ts : List Token) (w : Written) → Left s.put s.written g (t ∷ ts) w → Leads (step_at s g t) ts w
leads_at s stage.Start t ts w l =
    let ms : List Mark = Module ∷ Fixed (codes "where") ∷ [] in
    let e : Fits (Fixed (codes "module")) t × HeadLeft s.written ms ts w = head_less s.written (Fixed (codes "module")) ms t ts w l in leads_text s stage.Name (codes "module") t ts w e.0 e.1
leads_at s stage.Name t ts w l =
    let ms : List Mark = Fixed (codes "where") ∷ [] in
    let e : Fits Module t × HeadLeft s.written ms ts w = head_less s.written Module ms t ts w l in leads_on s stage.Where (is_module t) ts w (module_is t e.0) e.1
leads_at s stage.Where t ts w l =
    let e : Fits (Fixed (codes "where")) t × HeadLeft s.written [] ts w = head_less s.written (Fixed (codes "where")) [] t ts w l in leads_text s stage.Open (codes "where") t ts w e.0 e.1
leads_at s stage.Open t ts w l = leads_open s t ts w l
leads_at s stage.Body t ts w l = leads_part s t ts w l
leads_at s (stage.Import at) t ts w l = leads_import s at t ts w l
leads_at s (stage.Imported at) t ts w l = leads_behind true s stage.Body t ts w (λ k. k) l
leads_at s stage.Datas t ts w l = leads_data s t ts w l
leads_at s stage.DataType t ts w l = leads_type s t ts w l
leads_at s (stage.DataEquals ty) t ts w l = leads_equals s ty t ts w l
leads_at s (stage.DataCon ty) t ts w l = leads_con s ty t ts w l
leads_at s (stage.Fields d) t ts w l = leads_fields s d t ts w l
leads_at s stage.End t ts w l = absurd (let e : t ∷ ts ≡ [] = l.0 in cc)

pub complete : (s : State) (t : Token) (ts : List Token) (w : Written) → LeftOf s (t ∷ ts) w → (n : State) × (step_at s s.stage t ≡ Some n) × LeftOf n ts w
complete s t ts w l = leads_at s s.stage t ts w l
