-- The order of diagnostics by their places.
use Rattle.std.proofs.Common.{◌≡◌, refl, sym, subst, ℕ, Bool, true, false, cond, ◌⊎◌, inl, inr, List, [], ◌∷◌, ◌++◌, map, codes}
use Rattle.std.specs.List.{AllByRecursion, list_any, flat_map}
use Rattle.mk_base.specs.declared.diag.Diag.{Diag}
use Rattle.mk_base.specs.declared.place.Pos.{Pos}
use Rattle.plain_form.specs.declared.form.Word.{Word}
use Rattle.plain_form.specs.declared.form.DataItem.{DataItem}
use Rattle.plain_form.specs.declared.form.Written.{Written}
use Rattle.hs_syntax.specs.Rising.{IsBefore, AreRising}
use Rattle.plain_form.specs.Form.{places, words}
use Rattle.mk_base.specs.Texts.{same_text}
use Rattle.plain_scope.specs.Ordered.{AreOrdered}
use Rattle.plain_scope.specs.Scope.{Pair, Use, Missing, Ambiguous, Found, use_at, diag_at, use_diags, field_diags, twice_diags, data_diags, datas_diags}

-- the diagnostics stand at some of the words, in their order
abbrev pub AreAmong : List Diag → List Word → Type 0
AreAmong [] ws = Unit {0}
AreAmong (d ∷ ds) [] = ⊥
AreAmong (d ∷ ds) (w ∷ ws) = ((d.at ≡ w.at) × AreAmong ds ws) ⊎ AreAmong (d ∷ ds) ws

among_more : (ds : List Diag) (w : Word) (ws : List Word) → AreAmong ds ws → AreAmong ds (w ∷ ws)
among_more [] w ws a = tt
among_more (d ∷ ds) w ws a = inr a

pub among_behind : (ds : List Diag) (vs ws : List Word) → AreAmong ds ws → AreAmong ds (vs ++ ws)
among_behind ds [] ws a = a
among_behind ds (v ∷ vs) ws a = among_more ds v (vs ++ ws) (among_behind ds vs ws a)

pub among_append : (ds es : List Diag) (vs ws : List Word) → AreAmong ds vs → AreAmong es ws → AreAmong (ds ++ es) (vs ++ ws)
among_append [] es vs ws a b = among_behind es vs ws b
among_append (d ∷ ds) es [] ws a b = absurd a
among_append (d ∷ ds) es (v ∷ vs) ws (inl a) b = inl (a.0, among_append ds es vs ws a.1 b)
among_append (d ∷ ds) es (v ∷ vs) ws (inr a) b = inr (among_append (d ∷ ds) es vs ws a b)

-- what holds of the words' places holds of the diagnostics'
among_all : (P : Pos → Type 0) (ds : List Diag) (ws : List Word) → AreAmong ds ws → AllByRecursion P (places ws) → AllByRecursion P (map (λ (d : Diag). d.at) ds)
among_all P [] ws a h = tt
among_all P (d ∷ ds) [] a h = absurd a
among_all P (d ∷ ds) (w ∷ ws) (inl a) h = (subst P (sym a.0) h.0, among_all P ds ws a.1 h.1)
among_all P (d ∷ ds) (w ∷ ws) (inr a) h = among_all P (d ∷ ds) ws a h.1

-- diagnostics at words that rise are in order
pub among_rising : (ds : List Diag) (ws : List Word) → AreAmong ds ws → AreRising (places ws) → AreOrdered ds
among_rising [] ws a h = tt
among_rising (d ∷ ds) [] a h = absurd a
among_rising (d ∷ ds) (w ∷ ws) (inl a) h =
    (subst (λ (p : Pos). AllByRecursion (IsBefore p) (map (λ (e : Diag). e.at) ds)) (sym a.0) (among_all (IsBefore w.at) ds ws a.1 h.0), among_rising ds ws a.1 h.1)
among_rising (d ∷ ds) (w ∷ ws) (inr a) h = among_rising (d ∷ ds) ws a h.1

among_use : (w : Word) (u : Use) → AreAmong (use_diags w u) (w ∷ [])
among_use w Missing = inl (refl, tt)
among_use w Ambiguous = inl (refl, tt)
among_use w (Found e) = tt

among_if : (w : Word) (text : List ℕ) (b : Bool) → AreAmong (cond b (diag_at w.at 23 text ∷ []) []) (w ∷ [])
among_if w text true = inl (refl, tt)
among_if w text false = tt

among_twice : (w : Word) (before : List (List ℕ)) → AreAmong (twice_diags w before) (w ∷ [])
among_twice w before = among_if w (w.text ++ codes " is defined twice") (list_any (same_text w.text) before)

among_fields : (pairs : List Pair) (fs : List Word) → AreAmong (field_diags pairs fs) fs
among_fields pairs [] = tt
among_fields pairs (f ∷ fs) = among_append (use_diags f (use_at pairs f.text)) (field_diags pairs fs) (f ∷ []) fs (among_use f (use_at pairs f.text)) (among_fields pairs fs)

among_data : (pairs : List Pair) (before : List DataItem) (d : DataItem) → AreAmong (data_diags pairs before d) (d.ty ∷ d.con ∷ d.fields)
among_data pairs before d =
    let tys : List (List ℕ) = map (λ (e : DataItem). e.ty.text) before in
    let cons : List (List ℕ) = map (λ (e : DataItem). e.con.text) before in
    among_append (twice_diags d.ty tys) (twice_diags d.con cons ++ field_diags pairs d.fields) (d.ty ∷ []) (d.con ∷ d.fields) (among_twice d.ty tys)
    (among_append (twice_diags d.con cons) (field_diags pairs d.fields) (d.con ∷ []) d.fields (among_twice d.con cons) (among_fields pairs d.fields))

among_datas : (pairs : List Pair) (before ds : List DataItem) → AreAmong (datas_diags pairs before ds) (flat_map (λ (d : DataItem). d.ty ∷ d.con ∷ d.fields) ds)
among_datas pairs before [] = tt
among_datas pairs before (d ∷ ds) =
    among_append (data_diags pairs before d) (datas_diags pairs (before ++ d ∷ []) ds) (d.ty ∷ d.con ∷ d.fields) (flat_map (λ (e : DataItem). e.ty ∷ e.con ∷ e.fields) ds)
    (among_data pairs before d) (among_datas pairs (before ++ d ∷ []) ds)

-- the diagnostics of a module stand at its names, so where these rise they do
pub are_ordered : (pairs : List Pair) (w : Written) → AreRising (places (words w)) → AreOrdered (datas_diags pairs [] w.datas)
are_ordered pairs w h = among_rising (datas_diags pairs [] w.datas) (words w) (among_datas pairs [] w.datas) h
