-- The names of a module stand in the order of their places where the lexemes do.
use Rattle.std.proofs.Common.{◌≡◌, Bool, true, false, cond, not, List, [], ◌∷◌, ◌++◌, map, Some, None, Option, refl, sym, ap, subst, ◌∙◌}
use Rattle.std.proofs.lemmas.List.{map-append}
use Rattle.std.specs.List.{flat_map, AllByRecursion}
use Rattle.mk_base.specs.declared.place.Pos.{Pos}
use Rattle.hs_syntax.specs.Rising.{IsBefore, AreRising}
use Rattle.hs_syntax.specs.declared.token.Token.{Token}
use Rattle.hs_syntax.specs.declared.token.PutSign.{PutSign}
use Rattle.plain_form.specs.declared.form.Word.{Word}
use Rattle.plain_form.specs.declared.form.DataItem.{DataItem}
use Rattle.plain_form.specs.Form.{Mark, Fixed, Module, Imported, Placed, Open, Next, Close, Fits, AllFit, Part, Empty, Import, Data, IsForm, WordsRise, is_pragma, without_pragmas, data_marks, parted, datas_of, marks, words, places, written_at, lexeme_places}
use Rattle.plain_form.proofs.Left.{follow}
use Rattle.plain_form.proofs.Spelled.{form_spelled, parted-follow}

-- the places of the names among these marks
abbrev marked : List Mark → List Pos
marked [] = []
marked (Placed w ∷ ms) = w.at ∷ marked ms
marked (m ∷ ms) = marked ms

abbrev AreBehind : Pos → List Pos → Type 0
AreBehind p ps = AllByRecursion (IsBefore p) ps

behind_rest : (p a : Pos) (s : Option PutSign) (ps : List Pos) → AreBehind p (written_at s a ++ ps) → AreBehind p ps
behind_rest p a None ps h = h.1
behind_rest p a (Some s) ps h = h

rising_rest : (a : Pos) (s : Option PutSign) (ps : List Pos) → AreRising (written_at s a ++ ps) → AreRising ps
rising_rest a None ps h = h.1
rising_rest a (Some s) ps h = h

behind_first : (p a : Pos) (s : Option PutSign) (ps : List Pos) → s ≡ None → AreBehind p (written_at s a ++ ps) → IsBefore p a
behind_first p a None ps e h = h.0
behind_first p a (Some s) ps e h = absurd (cc)

rising_first : (a : Pos) (s : Option PutSign) (ps : List Pos) → s ≡ None → AreRising (written_at s a ++ ps) → AreBehind a ps
rising_first a None ps e h = h.0
rising_first a (Some s) ps e h = absurd (cc)

place_of : (w : Word) (t : Token) → Fits (Placed w) t → t.at ≡ w.at
place_of w t f = ap (λ (v : Word). v.at) f.1

behind_marked : (p : Pos) (ms : List Mark) (ts : List Token) → AllFit ms ts → AreBehind p (lexeme_places ts) → AreBehind p (marked ms)
behind_marked p [] [] f h = tt
behind_marked p [] (t ∷ ts) f h = absurd f
behind_marked p (m ∷ ms) [] f h = absurd f
behind_marked p (Placed w ∷ ms) (t ∷ ts) f h = (
  subst (IsBefore p) (place_of w t f.0) (behind_first p t.at t.put (lexeme_places ts) f.0.0 h),
  behind_marked p ms ts f.1 (behind_rest p t.at t.put (lexeme_places ts) h),
)
behind_marked p (m ∷ ms) (t ∷ ts) f h = behind_marked p ms ts f.1 (behind_rest p t.at t.put (lexeme_places ts) h)

marked_rise : (ms : List Mark) (ts : List Token) → AllFit ms ts → AreRising (lexeme_places ts) → AreRising (marked ms)
marked_rise [] [] f h = tt
marked_rise [] (t ∷ ts) f h = absurd f
marked_rise (m ∷ ms) [] f h = absurd f
marked_rise (Placed w ∷ ms) (t ∷ ts) f h = (
  subst (λ p. AreBehind p (marked ms)) (place_of w t f.0) (behind_marked t.at ms ts f.1 (rising_first t.at t.put (lexeme_places ts) f.0.0 h)),
  marked_rise ms ts f.1 (rising_rest t.at t.put (lexeme_places ts) h),
)
marked_rise (m ∷ ms) (t ∷ ts) f h = marked_rise ms ts f.1 (rising_rest t.at t.put (lexeme_places ts) h)

marked-append : (ms ns : List Mark) → marked (ms ++ ns) ≡ marked ms ++ marked ns
marked-append [] ns = refl
marked-append (Placed w ∷ ms) ns = ap (λ ps. w.at ∷ ps) (marked-append ms ns)
marked-append (Fixed text ∷ ms) ns = marked-append ms ns
marked-append (Module ∷ ms) ns = marked-append ms ns
marked-append (Imported ∷ ms) ns = marked-append ms ns
marked-append (Open put ∷ ms) ns = marked-append ms ns
marked-append (Next ∷ ms) ns = marked-append ms ns
marked-append (Close put ∷ ms) ns = marked-append ms ns

marked-names : (fs : List Word) → marked (map Placed fs) ≡ places fs
marked-names [] = refl
marked-names (f ∷ fs) = ap (λ ps. f.at ∷ ps) (marked-names fs)

abbrev names : List DataItem → List Word
names ds = flat_map (λ (d : DataItem). d.ty ∷ d.con ∷ d.fields) ds

abbrev behind : List Part → List Pos
behind ps = places (names (datas_of ps))

marked-data : (put : Bool) (d : DataItem) (ps : List Part) → marked (follow put ps) ≡ behind ps → marked (data_marks d ++ follow put ps) ≡ behind (Data d ∷ ps)
marked-data put d ps h =
    let e : marked (map Placed d.fields) ++ marked (follow put ps) ≡ places (d.fields ++ names (datas_of ps)) =
    ap (λ qs. qs ++ marked (follow put ps)) (marked-names d.fields) ∙ ap (λ qs. places d.fields ++ qs) h ∙ sym (map-append (λ (w : Word). w.at) d.fields (names (datas_of ps))) in
    marked-append (data_marks d) (follow put ps) ∙ ap (λ qs. d.ty.at ∷ d.con.at ∷ qs) e

marked-follow : (put : Bool) (ps : List Part) → marked (follow put ps) ≡ behind ps
marked-follow put [] = refl
marked-follow put (Empty ∷ ps) = marked-follow put ps
marked-follow put (Import ∷ ps) = marked-follow put ps
marked-follow put (Data d ∷ ps) = marked-data put d ps (marked-follow put ps)

marked-parts : (put : Bool) (ps : List Part) → marked (parted ps ++ Close put ∷ []) ≡ behind ps
marked-parts put [] = refl
marked-parts put (p ∷ ps) = ap marked (parted-follow put p ps) ∙ marked-follow put (p ∷ ps)

-- Pragmas may be left out.

behind_kept : (p a : Pos) (s : Option PutSign) (ps qs : List Pos) → AreBehind p (written_at s a ++ ps) → (AreBehind p ps → AreBehind p qs) → AreBehind p (written_at s a ++ qs)
behind_kept p a None ps qs h f = (h.0, f h.1)
behind_kept p a (Some s) ps qs h f = f h

behind_piece : (b : Bool) (p : Pos) (t : Token) (ts us : List Token) → AreBehind p (lexeme_places (t ∷ ts)) → (AreBehind p (lexeme_places ts) → AreBehind p (lexeme_places us)) → AreBehind p (lexeme_places (cond (not b) (t ∷ us) us))
behind_piece true p t ts us h f = f (behind_rest p t.at t.put (lexeme_places ts) h)
behind_piece false p t ts us h f = behind_kept p t.at t.put (lexeme_places ts) (lexeme_places us) h f

behind_lexemes : (p : Pos) (ts : List Token) → AreBehind p (lexeme_places ts) → AreBehind p (lexeme_places (without_pragmas ts))
behind_lexemes p [] h = tt
behind_lexemes p (t ∷ ts) h = behind_piece (is_pragma t.kind) p t ts (without_pragmas ts) h (behind_lexemes p ts)

rising_kept : (a : Pos) (s : Option PutSign) (ps qs : List Pos) → AreRising (written_at s a ++ ps) → (AreBehind a ps → AreBehind a qs) → (AreRising ps → AreRising qs) → AreRising (written_at s a ++ qs)
rising_kept a None ps qs h f g = (f h.0, g h.1)
rising_kept a (Some s) ps qs h f g = g h

rising_piece : (b : Bool) (t : Token) (ts us : List Token) → AreRising (lexeme_places (t ∷ ts)) → (AreBehind t.at (lexeme_places ts) → AreBehind t.at (lexeme_places us)) → (AreRising (lexeme_places ts) → AreRising (lexeme_places us))
    → AreRising (lexeme_places (cond (not b) (t ∷ us) us))
rising_piece true t ts us h f g = g (rising_rest t.at t.put (lexeme_places ts) h)
rising_piece false t ts us h f g = rising_kept t.at t.put (lexeme_places ts) (lexeme_places us) h f g

rising_lexemes : (ts : List Token) → AreRising (lexeme_places ts) → AreRising (lexeme_places (without_pragmas ts))
rising_lexemes [] h = tt
rising_lexemes (t ∷ ts) h = rising_piece (is_pragma t.kind) t ts (without_pragmas ts) h (behind_lexemes t.at ts) (rising_lexemes ts)

pub words_rise : WordsRise
words_rise ts w h r =
    let f : IsForm ts w = form_spelled ts w h in
    let e : marked (marks f.0 f.1) ≡ places (words w) = marked-parts f.0 f.1 ∙ ap (λ ds. places (names ds)) (sym f.3) in
    subst AreRising e (marked_rise (marks f.0 f.1) (without_pragmas ts) f.4 (rising_lexemes ts r))
