-- Tokens are read as a module exactly where they spell it.
use Rattle.std.proofs.Common.{◌≡◌, Bool, List, [], ◌∷◌, ◌++◌, Some, None, Option, refl, sym, ap, subst, ◌∙◌, codes, append_assoc}
use Rattle.mk_base.specs.declared.place.Pos.{Pos}
use Rattle.hs_syntax.specs.declared.token.Token.{Token}
use Rattle.plain_form.specs.declared.form.DataItem.{DataItem}
use Rattle.plain_form.specs.declared.form.Written.{Written}
use Rattle.plain_form.specs.declared.form.Reading.{Reading}
use Rattle.plain_form.specs.declared.form.Reading.TheVariants.{Form}
use Rattle.plain_form.specs.declared.state.Stage.{Stage}
use Rattle.plain_form.specs.declared.state.Stage.TheVariants as stage
use Rattle.plain_form.specs.declared.state.State.{State}
use Rattle.mk_base.specs.Places.{first_place}
use Rattle.plain_form.specs.Form.{Mark, Fixed, Module, Open, Next, Close, AllFit, Part, Empty, part_marks, parted, IsForm, told, go, ended, read_from, read_form, start, step, without_pragmas}
use Rattle.plain_form.proofs.Left.{LeftOf, Left, follow, some_left}
use Rattle.plain_form.proofs.Sound.{sound}
use Rattle.plain_form.proofs.Complete.{complete}

pub go_form : (at : Pos) (o : Option State) (f : State → Reading) (w : Written) → go at o f ≡ Form w → (n : State) × (o ≡ Some n) × (f n ≡ Form w)
go_form at (Some n) f w h = (n, refl, h)
go_form at None f w h = absurd (cc)

ended_form : (s : State) (g : Stage) (p : Pos) (w : Written) → ended s g p ≡ Form w → (g ≡ stage.End) × (s.written ≡ w)
ended_form s stage.End p w h = (refl, cc)
ended_form s g p w h = absurd (cc)

spelled_from : (ts : List Token) (s : State) (p : Pos) (w : Written) → read_from s p ts ≡ Form w → LeftOf s ts w
spelled_from [] s p w h =
    let e : (s.stage ≡ stage.End) × (s.written ≡ w) = ended_form s s.stage p w h in subst (λ g. Left s.put s.written g [] w) (sym e.0) (refl, ap (λ (v : Written). v.datas) (sym e.1))
spelled_from (t ∷ ts) s p w h =
    let e : (n : State) × (step s t ≡ Some n) × (read_from n t.at ts ≡ Form w) = go_form (told s.stage t) (step s t) (λ n. read_from n t.at ts) w h in
    sound s e.0 t ts w e.1 (spelled_from ts e.0 t.at w e.2)

same_written : (v w : Written) → w.datas ≡ v.datas → v ≡ w
same_written v w h = let f = λ (ds : List DataItem). let r : Written = record { datas = ds } in r in ap f (sym h)

read_left : (ts : List Token) (s : State) (p : Pos) (w : Written) → LeftOf s ts w → read_from s p ts ≡ Form w
read_left [] s p w l =
    let e : (s.stage ≡ stage.End) × (w.datas ≡ s.written.datas) = some_left s.put s.written s.stage w l in ap (λ g. ended s g p) e.0 ∙ ap (λ v. Form v) (same_written s.written w e.1)
read_left (t ∷ ts) s p w l =
    let e : (n : State) × (step s t ≡ Some n) × LeftOf n ts w = complete s t ts w l in ap (λ o. go (told s.stage t) o (λ n. read_from n t.at ts)) e.1 ∙ read_left ts e.0 t.at w e.2

-- the parts with semicolons between them and the closing brace
pub parted-follow : (put : Bool) (p : Part) (ps : List Part) → parted (p ∷ ps) ++ Close put ∷ [] ≡ part_marks p ++ follow put ps
parted-follow put p [] = refl
parted-follow put p (q ∷ qs) = append_assoc (part_marks p) (Next ∷ parted (q ∷ qs)) (Close put ∷ []) ∙ ap (λ ms. part_marks p ++ Next ∷ ms) (parted-follow put q qs)

abbrev head_marks : Bool → List Mark → List Mark
head_marks put ms = Fixed (codes "module") ∷ Module ∷ Fixed (codes "where") ∷ Open put ∷ ms

to_form : (ts : List Token) (w : Written) → LeftOf start (without_pragmas ts) w → IsForm ts w
to_form ts w (put, p, ps, a, f, i) = (put, p ∷ ps, a, i, subst (λ ms. AllFit (head_marks put ms) (without_pragmas ts)) (sym (parted-follow put p ps)) f)

from_form : (ts : List Token) (w : Written) → IsForm ts w → LeftOf start (without_pragmas ts) w
from_form ts w (put, [], a, i, f) = (put, Empty, [], a, f, i)
from_form ts w (put, p ∷ ps, a, i, f) = (put, p, ps, a, subst (λ ms. AllFit (head_marks put ms) (without_pragmas ts)) (parted-follow put p ps) f, i)

pub form_spelled : (ts : List Token) (w : Written) → read_form ts ≡ Form w → IsForm ts w
form_spelled ts w h = to_form ts w (spelled_from (without_pragmas ts) start first_place w h)

pub form_read : (ts : List Token) (w : Written) → IsForm ts w → read_form ts ≡ Form w
form_read ts w h = read_left (without_pragmas ts) start first_place w (from_form ts w h)
