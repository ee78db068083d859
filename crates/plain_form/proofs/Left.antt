-- What is left of a module behind each state.
use Rattle.std.proofs.Common.{◌≡◌, ◌⊎◌, inl, inr, Bool, true, false, List, [], ◌∷◌, ◌++◌, map, refl, sym, subst, ◌∙◌, codes, append_assoc, append-nil}
use Rattle.std.specs.List.{AllByRecursion}
use Rattle.hs_syntax.specs.declared.token.Token.{Token}
use Rattle.plain_form.specs.declared.form.Word.{Word}
use Rattle.plain_form.specs.declared.form.DataItem.{DataItem}
use Rattle.plain_form.specs.declared.form.Written.{Written}
use Rattle.plain_form.specs.declared.state.Stage.{Stage}
use Rattle.plain_form.specs.declared.state.Stage.TheVariants as stage
use Rattle.plain_form.specs.declared.state.State.{State}
use Rattle.plain_form.specs.Words.{is_con}
use Rattle.plain_form.specs.Form.{Mark, Fixed, Module, Imported, Placed, Open, Next, Close, Fits, AllFit, Part, Empty, Import, Data, IsData, AreParts, data_marks, part_marks, datas_of}

abbrev pub add_data : Written → DataItem → Written
add_data v d = record { datas = v.datas ++ d ∷ [] }

abbrev pub item_of : Word → Word → List Word → DataItem
item_of ty con fs = record { ty = ty; con = con; fields = fs }

-- behind a part: further parts, each behind a semicolon, and the closing brace
abbrev pub follow : Bool → List Part → List Mark
follow put [] = Close put ∷ []
follow put (p ∷ ps) = Next ∷ (part_marks p ++ follow put ps)

abbrev pub AreCons : List Word → Type 0
AreCons fs = AllByRecursion (λ (f : Word). is_con f.text ≡ true) fs

-- these marks, and then further parts or none
abbrev pub RestLeft : Bool → Bool → Written → List Mark → List Token → Written → Type 0
RestLeft imports put v ms ts w = (ps : List Part) × AreParts imports ps × AllFit (ms ++ follow put ps) ts × (w.datas ≡ v.datas ++ datas_of ps)

-- a part, and then further parts or none
abbrev pub PartLeft : Bool → Bool → Written → List Token → Written → Type 0
PartLeft imports put v ts w = (p : Part) × (ps : List Part) × AreParts imports (p ∷ ps) × AllFit (part_marks p ++ follow put ps) ts × (w.datas ≡ v.datas ++ datas_of (p ∷ ps))

-- these marks, and then the opening brace and the parts
abbrev pub HeadLeft : Written → List Mark → List Token → Written → Type 0
HeadLeft v ms ts w = (put : Bool) × (p : Part) × (ps : List Part) × AreParts true (p ∷ ps) × AllFit (ms ++ Open put ∷ (part_marks p ++ follow put ps)) ts × (w.datas ≡ v.datas ++ datas_of (p ∷ ps))

abbrev pub AtEnd : Written → List Token → Written → Type 0
AtEnd v ts w = (ts ≡ []) × (w.datas ≡ v.datas)

-- these tokens are what is left of module w where the state before them is of this stage
abbrev pub Left : Bool → Written → Stage → List Token → Written → Type 0
Left put v stage.Start ts w = HeadLeft v (Fixed (codes "module") ∷ Module ∷ Fixed (codes "where") ∷ []) ts w
Left put v stage.Name ts w = HeadLeft v (Module ∷ Fixed (codes "where") ∷ []) ts w
Left put v stage.Where ts w = HeadLeft v (Fixed (codes "where") ∷ []) ts w
Left put v stage.Open ts w = HeadLeft v [] ts w
Left put v stage.Body ts w = PartLeft true put v ts w
Left put v (stage.Import at) ts w = RestLeft true put v (Imported ∷ []) ts w
Left put v (stage.Imported at) ts w = RestLeft true put v [] ts w
Left put v stage.Datas ts w = PartLeft false put v ts w
Left put v stage.DataType ts w = (d : DataItem) × IsData d × RestLeft false put (add_data v d) (Placed d.ty ∷ Fixed (codes "=") ∷ Placed d.con ∷ map Placed d.fields) ts w
Left put v (stage.DataEquals ty) ts w = (con : Word) × (fs : List Word) × (is_con con.text ≡ true) × AreCons fs × RestLeft false put (add_data v (item_of ty con fs)) (Fixed (codes "=") ∷ Placed con ∷ map Placed fs) ts w
Left put v (stage.DataCon ty) ts w = (con : Word) × (fs : List Word) × (is_con con.text ≡ true) × AreCons fs × RestLeft false put (add_data v (item_of ty con fs)) (Placed con ∷ map Placed fs) ts w
Left put v (stage.Fields d) ts w = (fs : List Word) × AreCons fs × RestLeft false put (add_data v (item_of d.ty d.con (d.fields ++ fs))) (map Placed fs) ts w
Left put v stage.End ts w = AtEnd v ts w

abbrev pub LeftOf : State → List Token → Written → Type 0
LeftOf s ts w = Left s.put s.written s.stage ts w

snoc : {A : Type 0} (xs : List A) (y : A) (ys : List A) → (xs ++ y ∷ []) ++ ys ≡ xs ++ y ∷ ys
snoc xs y ys = append_assoc xs (y ∷ []) ys

-- The marks in front, one by one.

pub rest_more : (b put : Bool) (v : Written) (m : Mark) (ms : List Mark) (t : Token) (ts : List Token) (w : Written) → Fits m t → RestLeft b put v ms ts w → RestLeft b put v (m ∷ ms) (t ∷ ts) w
rest_more b put v m ms t ts w h l = (l.0, l.1, (h, l.2), l.3)

pub rest_less : (b put : Bool) (v : Written) (m : Mark) (ms : List Mark) (t : Token) (ts : List Token) (w : Written) → RestLeft b put v (m ∷ ms) (t ∷ ts) w → Fits m t × RestLeft b put v ms ts w
rest_less b put v m ms t ts w l = (l.2.0, (l.0, l.1, l.2.1, l.3))

pub head_more : (v : Written) (m : Mark) (ms : List Mark) (t : Token) (ts : List Token) (w : Written) → Fits m t → HeadLeft v ms ts w → HeadLeft v (m ∷ ms) (t ∷ ts) w
head_more v m ms t ts w h l = (l.0, l.1, l.2, l.3, (h, l.4), l.5)

pub head_less : (v : Written) (m : Mark) (ms : List Mark) (t : Token) (ts : List Token) (w : Written) → HeadLeft v (m ∷ ms) (t ∷ ts) w → Fits m t × HeadLeft v ms ts w
head_less v m ms t ts w l = (l.4.0, (l.0, l.1, l.2, l.3, l.4.1, l.5))

-- What is behind a part.

no_tokens : (ts : List Token) → AllFit [] ts → ts ≡ []
no_tokens [] h = refl
no_tokens (t ∷ ts) h = absurd h

fit_none : (ts : List Token) → ts ≡ [] → AllFit [] ts
fit_none ts h = subst (AllFit []) (sym h) tt

pub rest_end : (b put : Bool) (v : Written) (t : Token) (ts : List Token) (w : Written) → Fits (Close put) t → AtEnd v ts w → RestLeft b put v [] (t ∷ ts) w
rest_end b put v t ts w h l = ([], tt, (h, fit_none ts l.0), l.1 ∙ sym (append-nil v.datas))

pub rest_next : (b put : Bool) (v : Written) (t : Token) (ts : List Token) (w : Written) → Fits Next t → PartLeft b put v ts w → RestLeft b put v [] (t ∷ ts) w
rest_next b put v t ts w h l = (l.0 ∷ l.1, l.2, (h, l.3), l.4)

pub rest_split : (b put : Bool) (v : Written) (t : Token) (ts : List Token) (w : Written) → RestLeft b put v [] (t ∷ ts) w → (Fits (Close put) t × AtEnd v ts w) ⊎ (Fits Next t × PartLeft b put v ts w)
rest_split b put v t ts w ([], a, f, i) = inl (f.0, (no_tokens ts f.1, i ∙ append-nil v.datas))
rest_split b put v t ts w (p ∷ ps, a, f, i) = inr (f.0, (p, ps, a, f.1, i))

-- The parts.

pub part_empty : (b put : Bool) (v : Written) (ts : List Token) (w : Written) → RestLeft b put v [] ts w → PartLeft b put v ts w
part_empty b put v ts w l = (Empty, l.0, l.1, l.2, l.3)

pub part_import : (put : Bool) (v : Written) (ts : List Token) (w : Written) → RestLeft true put v (Fixed (codes "import") ∷ Imported ∷ []) ts w → PartLeft true put v ts w
part_import put v ts w l = (Import, l.0, (refl, l.1), l.2, l.3)

pub part_data : (b put : Bool) (v : Written) (d : DataItem) (ts : List Token) (w : Written) → IsData d → RestLeft false put (add_data v d) (data_marks d) ts w → PartLeft b put v ts w
part_data b put v d ts w h l = (Data d, l.0, (h, l.1), l.2, l.3 ∙ snoc v.datas d (datas_of l.0))

pub data_rest : (put : Bool) (v : Written) (d : DataItem) (ps : List Part) (ts : List Token) (w : Written) → AreParts false ps → AllFit (data_marks d ++ follow put ps) ts → w.datas ≡ v.datas ++ d ∷ datas_of ps
    → RestLeft false put (add_data v d) (data_marks d) ts w
data_rest put v d ps ts w a f i = (ps, a, f, i ∙ sym (snoc v.datas d (datas_of ps)))

-- No state but the last has nothing left.

follow_some : (put : Bool) (ps : List Part) → AllFit (follow put ps) [] → ⊥
follow_some put [] f = f
follow_some put (p ∷ ps) f = f

part_some : (put : Bool) (p : Part) (ps : List Part) → AllFit (part_marks p ++ follow put ps) [] → ⊥
part_some put Empty ps f = follow_some put ps f
part_some put Import ps f = f
part_some put (Data d) ps f = f

pub some_left : (put : Bool) (v : Written) (g : Stage) (w : Written) → Left put v g [] w → (g ≡ stage.End) × (w.datas ≡ v.datas)
some_left put v stage.Start w l = absurd l.4
some_left put v stage.Name w l = absurd l.4
some_left put v stage.Where w l = absurd l.4
some_left put v stage.Open w l = absurd l.4
some_left put v stage.Body w l = absurd (part_some put l.0 l.1 l.3)
some_left put v (stage.Import at) w l = absurd l.2
some_left put v (stage.Imported at) w l = absurd (follow_some put l.0 l.2)
some_left put v stage.Datas w l = absurd (part_some put l.0 l.1 l.3)
some_left put v stage.DataType w l = absurd l.2.2
some_left put v (stage.DataEquals ty) w l = absurd l.4.2
some_left put v (stage.DataCon ty) w l = absurd l.4.2
some_left put v (stage.Fields d) w ([], ac, l) = absurd (follow_some put l.0 l.2)
some_left put v (stage.Fields d) w (y ∷ ys, ac, l) = absurd l.2
some_left put v stage.End w l = (refl, l.1)
