-- What leaves the form first is the first bad token.
use Rattle.std.proofs.Common.{◌≡◌, ◌⊎◌, inl, inr, ℕ, zero, suc, Bool, true, false, cond, not, List, [], ◌∷◌, ◌++◌, take, Some, None, Option, refl, sym, ap, ◌∙◌, append-nil}
use Rattle.std.proofs.lemmas.List.Elements.{filter-append}
use Rattle.std.specs.List.{slice_get, AllByRecursion}
use Rattle.mk_base.specs.declared.place.Pos.{Pos}
use Rattle.hs_syntax.specs.declared.token.Token.{Token}
use Rattle.plain_form.specs.declared.form.Written.{Written}
use Rattle.plain_form.specs.declared.form.Reading.{Reading}
use Rattle.plain_form.specs.declared.form.Reading.TheVariants.{Form, Leaves}
use Rattle.plain_form.specs.declared.state.State.{State}
use Rattle.mk_base.specs.Places.{first_place}
use Rattle.plain_form.specs.Form.{IsForm, Begins, IsFirstBadOf, FormIsSpelled, is_pragma, without_pragmas, told, ended, read_from, start, last_place}
use Rattle.plain_form.proofs.Spelled.{form_spelled, form_read}
use Rattle.plain_form.proofs.Runs.{run, Sticks, Stops, run_read, run_stuck, fates, stick_leaves, ended_either}
use Rattle.plain_form.proofs.Ahead.{ends}
use Rattle.plain_form.proofs.Told.{told-behind}

-- Tokens none of which is a pragma.

abbrev AreLexemes : List Token → Type 0
AreLexemes ts = AllByRecursion (λ (t : Token). is_pragma t.kind ≡ false) ts

kept_lexeme : (b : Bool) (t : Token) (ts : List Token) → is_pragma t.kind ≡ b → AreLexemes ts → AreLexemes (cond (not b) (t ∷ ts) ts)
kept_lexeme true t ts e h = h
kept_lexeme false t ts e h = (e, h)

left_lexemes : (ts : List Token) → AreLexemes (without_pragmas ts)
left_lexemes [] = tt
left_lexemes (t ∷ ts) = kept_lexeme (is_pragma t.kind) t (without_pragmas ts) refl (left_lexemes ts)

front_lexemes : (n : ℕ) (ts : List Token) → AreLexemes ts → AreLexemes (take n ts)
front_lexemes zero [] h = tt
front_lexemes (suc n) [] h = tt
front_lexemes zero (t ∷ ts) h = tt
front_lexemes (suc n) (t ∷ ts) h = (h.0, front_lexemes n ts h.1)

same_lexemes : (ts : List Token) → AreLexemes ts → without_pragmas ts ≡ ts
same_lexemes [] h = refl
same_lexemes (t ∷ ts) h = ap (λ b. cond (not b) (t ∷ without_pragmas ts) (without_pragmas ts)) h.0 ∙ ap (λ us. t ∷ us) (same_lexemes ts h.1)

joined : (ts rest : List Token) → AreLexemes ts → without_pragmas (ts ++ rest) ≡ ts ++ without_pragmas rest
joined ts rest h = filter-append (λ (t : Token). not (is_pragma t.kind)) ts rest ∙ ap (λ us. us ++ without_pragmas rest) (same_lexemes ts h)

abbrev read : List Token → Reading
read ts = read_from start first_place ts

spelled_read : (ts : List Token) (w : Written) → AreLexemes ts → IsForm ts w → read ts ≡ Form w
spelled_read ts w a f = ap read (sym (same_lexemes ts a)) ∙ form_read ts w f

read_spelled : (ts : List Token) (w : Written) → AreLexemes ts → read ts ≡ Form w → IsForm ts w
read_spelled ts w a h = form_spelled ts w (ap read (same_lexemes ts a) ∙ h)

-- Tokens begin a module exactly where all of them are read.

abbrev Runs : List Token → Type 0
Runs ts = (n : State) × (run start ts ≡ Some n)

read_or_stuck : (ts rest : List Token) (w : Written) (o : Option State) → run start ts ≡ o → read (ts ++ rest) ≡ Form w → Runs ts
read_or_stuck ts rest w (Some n) e h = (n, e)
read_or_stuck ts rest w None e h = absurd (run_stuck ts rest start first_place w e h)

front_runs : (ts : List Token) → AreLexemes ts → Begins ts → Runs ts
front_runs ts a (rest, w, f) = read_or_stuck ts (without_pragmas rest) w (run start ts) refl (ap read (sym (joined ts rest a)) ∙ form_read (ts ++ rest) w f)

runs_front : (ts : List Token) (n : State) → AreLexemes ts → run start ts ≡ Some n → Begins ts
runs_front ts n a h =
    let p : Pos = last_place first_place ts in
    let r : (rest : List Token) × (w : Written) × (read_from n p (without_pragmas rest) ≡ Form w) = ends n p in
    (r.0, r.1, form_spelled (ts ++ r.0) r.1 (ap read (joined ts r.0 a) ∙ run_read ts (without_pragmas r.0) start n first_place h ∙ r.2))

no_front : (ts : List Token) → AreLexemes ts → run start ts ≡ None → Begins ts → ⊥
no_front ts a h f = let r : Runs ts = front_runs ts a f in let e : None ≡ Some r.0 = sym h ∙ r.1 in cc

-- The first bad token.

first_bad : (ts : List Token) (at : Pos) → AreLexemes ts → read ts ≡ Leaves at → Sticks start ts at ⊎ Stops start first_place ts at → IsFirstBadOf ts at
first_bad ts at l h (inl (n, t, k, (g, a, b), e)) =
    inl (n, t, g, runs_front (take n ts) k (front_lexemes n ts l) a, no_front (take (suc n) ts) (front_lexemes (suc n) ts l) b, e ∙ sym (told-behind (take n ts) k t a))
first_bad ts at l h (inr (k, a, e)) = inr (runs_front ts k l a, (λ w f. let q : Leaves at ≡ Form w = sym h ∙ spelled_read ts w l f in cc), e)

sticks_there : (n : ℕ) (ts : List Token) (k : State) (t : Token) (o : Option State) → AreLexemes ts → slice_get ts n ≡ Some t → run start (take n ts) ≡ Some k → (Begins (take (suc n) ts) → ⊥) → run start (take (suc n) ts) ≡ o
    → read ts ≡ Leaves (told k.stage t)
sticks_there n ts k t (Some m) l g a b e = absurd (b (runs_front (take (suc n) ts) m (front_lexemes (suc n) ts l) e))
sticks_there n ts k t None l g a b e = stick_leaves n ts start k first_place t (g, a, e)

stops_there : (ts : List Token) (k : State) (p : Pos) (r : Reading) → AreLexemes ts → read ts ≡ r → ((w : Written) → IsForm ts w → ⊥) → (r ≡ Form k.written) ⊎ (r ≡ Leaves p) → r ≡ Leaves p
stops_there ts k p r l e f (inl h) = absurd (f k.written (read_spelled ts k.written l (e ∙ h)))
stops_there ts k p r l e f (inr h) = h

leaves_there : (ts : List Token) (at : Pos) → AreLexemes ts → IsFirstBadOf ts at → read ts ≡ Leaves at
leaves_there ts at l (inl (n, t, g, f, b, e)) =
    let r : Runs (take n ts) = front_runs (take n ts) (front_lexemes n ts l) f in
    sticks_there n ts r.0 t (run start (take (suc n) ts)) l g r.1 b refl ∙ ap (λ p. Leaves p) (sym (e ∙ told-behind (take n ts) r.0 t r.1))
leaves_there ts at l (inr (f, b, e)) =
    let r : Runs ts = front_runs ts l f in
    let p : Pos = last_place first_place ts in
    let q : read ts ≡ ended r.0 r.0.stage p = ap read (sym (append-nil ts)) ∙ run_read ts [] start r.0 first_place r.1 in
    q ∙ stops_there ts r.0 p (ended r.0 r.0.stage p) l q b (ended_either r.0 r.0.stage p) ∙ ap (λ z. Leaves z) (sym e)

pub form_is_spelled : FormIsSpelled
form_is_spelled ts =
    let us : List Token = without_pragmas ts in (
      (λ w. (form_spelled ts w, form_read ts w)),
      λ at. ((λ h. first_bad us at (left_lexemes ts) h (fates us start first_place at h)), leaves_there us at (left_lexemes ts)),
    )
