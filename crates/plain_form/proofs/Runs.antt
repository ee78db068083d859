-- Where a reading stands behind the first tokens.
use Rattle.std.proofs.Common.{◌≡◌, ◌⊎◌, inl, inr, ℕ, zero, suc, List, [], ◌∷◌, ◌++◌, take, Some, None, Option, refl, sym, ap, ◌∙◌}
use Rattle.std.specs.List.{slice_get}
use Rattle.mk_base.specs.declared.place.Pos.{Pos}
use Rattle.hs_syntax.specs.declared.token.Token.{Token}
use Rattle.plain_form.specs.declared.form.Written.{Written}
use Rattle.plain_form.specs.declared.form.Reading.{Reading}
use Rattle.plain_form.specs.declared.form.Reading.TheVariants.{Form, Leaves}
use Rattle.plain_form.specs.declared.state.Stage.{Stage}
use Rattle.plain_form.specs.declared.state.Stage.TheVariants as stage
use Rattle.plain_form.specs.declared.state.State.{State}
use Rattle.plain_form.specs.Form.{told, go, ended, read_from, step, last_place}

abbrev pub carried : Option State → (State → Option State) → Option State
carried (Some n) f = f n
carried None f = None

-- the state behind these tokens; none where one of them leaves the form
abbrev pub run : State → List Token → Option State
run s [] = Some s
run s (t ∷ ts) = carried (step s t) (λ n. run n ts)

pub carried_some : (o : Option State) (f : State → Option State) (k : State) → carried o f ≡ Some k → (n : State) × (o ≡ Some n) × (f n ≡ Some k)
carried_some (Some n) f k h = (n, refl, h)
carried_some None f k h = absurd (cc)

pub run_read : (ts rest : List Token) (s k : State) (p : Pos) → run s ts ≡ Some k → read_from s p (ts ++ rest) ≡ read_from k (last_place p ts) rest
run_read [] rest s k p h = let e : s ≡ k = cc in ap (λ n. read_from n p rest) e
run_read (t ∷ ts) rest s k p h =
    let e : (n : State) × (step s t ≡ Some n) × (run n ts ≡ Some k) = carried_some (step s t) (λ n. run n ts) k h in
    ap (λ o. go (told s.stage t) o (λ n. read_from n t.at (ts ++ rest))) e.1 ∙ run_read ts rest e.0 k t.at e.2

stuck_at : (at : Pos) (t : Token) (ts rest : List Token) (o : Option State) (w : Written) → carried o (λ n. run n ts) ≡ None → go at o (λ n. read_from n t.at (ts ++ rest)) ≡ Form w
    → ((n : State) → run n ts ≡ None → read_from n t.at (ts ++ rest) ≡ Form w → ⊥) → ⊥
stuck_at at t ts rest (Some n) w h i f = f n h i
stuck_at at t ts rest None w h i f = cc

pub run_stuck : (ts rest : List Token) (s : State) (p : Pos) (w : Written) → run s ts ≡ None → read_from s p (ts ++ rest) ≡ Form w → ⊥
run_stuck [] rest s p w h i = cc
run_stuck (t ∷ ts) rest s p w h i = stuck_at (told s.stage t) t ts rest (step s t) w h i (λ n. run_stuck ts rest n t.at w)

-- the tokens before this one are read, and the reading sticks at it
abbrev pub SticksAt : State → List Token → ℕ → Token → State → Type 0
SticksAt s ts n t k = (slice_get ts n ≡ Some t) × (run s (take n ts) ≡ Some k) × (run s (take (suc n) ts) ≡ None)

abbrev pub Sticks : State → List Token → Pos → Type 0
Sticks s ts at = (n : ℕ) × (t : Token) × (k : State) × SticksAt s ts n t k × (at ≡ told k.stage t)

-- all tokens are read, and the reading isn't at its end
abbrev pub Stops : State → Pos → List Token → Pos → Type 0
Stops s p ts at = (k : State) × (run s ts ≡ Some k) × (at ≡ last_place p ts)

place_of : (p at : Pos) → Leaves p ≡ Leaves at → at ≡ p
place_of p at h = cc

next_fate : (s : State) (t : Token) (ts : List Token) (p at : Pos) (n : State) → step s t ≡ Some n → Sticks n ts at ⊎ Stops n t.at ts at → Sticks s (t ∷ ts) at ⊎ Stops s p (t ∷ ts) at
next_fate s t ts p at n e (inl (i, u, k, (g, a, b), q)) = inl (suc i, u, k, (g, ap (λ o. carried o (λ m. run m (take i ts))) e ∙ a, ap (λ o. carried o (λ m. run m (take (suc i) ts))) e ∙ b), q)
next_fate s t ts p at n e (inr (k, a, q)) = inr (k, ap (λ o. carried o (λ m. run m ts)) e ∙ a, q)

fate_of : (s : State) (t : Token) (ts : List Token) (p at : Pos) (o : Option State) → step s t ≡ o → go (told s.stage t) o (λ n. read_from n t.at ts) ≡ Leaves at
    → ((n : State) → read_from n t.at ts ≡ Leaves at → Sticks n ts at ⊎ Stops n t.at ts at) → Sticks s (t ∷ ts) at ⊎ Stops s p (t ∷ ts) at
fate_of s t ts p at (Some n) e h f = next_fate s t ts p at n e (f n h)
fate_of s t ts p at None e h f = inl (zero, t, s, (refl, refl, ap (λ o. carried o (λ n. Some n)) e), place_of (told s.stage t) at h)

ended_leaves : (s : State) (p at : Pos) (r : Reading) → r ≡ Leaves at → (r ≡ Form s.written) ⊎ (r ≡ Leaves p) → at ≡ p
ended_leaves s p at r h (inl e) = absurd (cc)
ended_leaves s p at r h (inr e) = place_of p at (sym e ∙ h)

pub ended_either : (s : State) (g : Stage) (p : Pos) → (ended s g p ≡ Form s.written) ⊎ (ended s g p ≡ Leaves p)
ended_either s stage.End p = inl refl
ended_either s g p = inr refl

-- what leaves the form sticks at a token, or stops at the end
pub fates : (ts : List Token) (s : State) (p at : Pos) → read_from s p ts ≡ Leaves at → Sticks s ts at ⊎ Stops s p ts at
fates [] s p at h = inr (s, refl, ended_leaves s p at (ended s s.stage p) h (ended_either s s.stage p))
fates (t ∷ ts) s p at h = fate_of s t ts p at (step s t) refl h (λ n. fates ts n t.at at)

none_sticks : (s : State) (t u : Token) (ts : List Token) (o : Option State) → step s t ≡ o → carried o (λ n. Some n) ≡ None → Some t ≡ Some u → go (told s.stage t) o (λ n. read_from n t.at ts) ≡ Leaves (told s.stage u)
none_sticks s t u ts (Some n) e h g = absurd (cc)
none_sticks s t u ts None e h g = let v : t ≡ u = cc in ap (λ (y : Token). Leaves (told s.stage y)) v

pub stick_leaves : (n : ℕ) (ts : List Token) (s k : State) (p : Pos) (t : Token) → SticksAt s ts n t k → read_from s p ts ≡ Leaves (told k.stage t)
stick_leaves n [] s k p t (g, a, b) = absurd (cc)
stick_leaves zero (u ∷ ts) s k p t (g, a, b) = let e : s ≡ k = cc in none_sticks s u t ts (step s u) refl b g ∙ ap (λ (m : State). Leaves (told m.stage t)) e
stick_leaves (suc n) (u ∷ ts) s k p t (g, a, b) =
    let e : (m : State) × (step s u ≡ Some m) × (run m (take n ts) ≡ Some k) = carried_some (step s u) (λ m. run m (take n ts)) k a in
    ap (λ o. go (told s.stage u) o (λ m. read_from m u.at ts)) e.1 ∙ stick_leaves n ts e.0 k u.at t (g, e.2, sym (ap (λ o. carried o (λ m. run m (take (suc n) ts))) e.1) ∙ b)
