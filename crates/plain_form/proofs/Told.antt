-- The place that is told of a token, by the stage at which it stands and by the tokens before it.
use Rattle.std.proofs.Common.{◌≡◌, inl, inr, ℕ, Bool, true, false, cond, List, [], ◌∷◌, Some, None, Option, refl, sym, ap, subst, ◌∙◌, codes}
use Rattle.mk_base.specs.declared.place.Pos.{Pos}
use Rattle.hs_syntax.specs.declared.token.Token.{Token}
use Rattle.plain_form.specs.declared.form.DataItem.{DataItem}
use Rattle.plain_form.specs.declared.state.Stage.{Stage}
use Rattle.plain_form.specs.declared.state.Stage.TheVariants as stage
use Rattle.plain_form.specs.declared.state.State.{State}
use Rattle.plain_form.specs.Form.{Fixed, Imported, Fits, is_text, is_name, is_module, is_import, is_next, is_close, opened, word_of, on, at_stage, at_part, at_data, behind_part, with_data, with_field, step_at, step, start, told, ends_part, import_behind, open_import, place_in, told_behind}
use Rattle.plain_form.proofs.Fits.{fixed_of, fixed_not, module_of, import_of, open_of, close_of, next_of, open_no_text, close_no_text, next_no_text, module_no_text, module_no_end, name_no_text, next_ends, close_ends}
use Rattle.plain_form.proofs.Sound.{on_some, pick, opened_to}
use Rattle.plain_form.proofs.Runs.{run, carried_some}

-- the import in which the next token stands, by the place of its `import`
abbrev standing : Stage → Option Pos
standing (stage.Import at) = Some at
standing (stage.Imported at) = Some at
standing g = None

abbrev is_begun : Stage → Bool
is_begun stage.Start = false
is_begun g = true

told-begun : (g : Stage) (t : Token) → is_begun g ≡ true → told g t ≡ place_in (standing g) t.at
told-begun stage.Start t h = absurd (cc)
told-begun g t h = refl

-- a token in front of stage h, behind one of stage g
abbrev Follows : Stage → Token → Stage → Type 0
Follows g t h = (import_behind (standing g) t ≡ standing h) × (is_begun h ≡ true)

abbrev word : List ℕ
word = codes "import"

moved : (g : Stage) (t : Token) (s n : State) → s ≡ n → Follows g t s.stage → Follows g t n.stage
moved g t s n e f = subst (λ (k : State). Follows g t k.stage) e f

-- what stands open behind a token, by what it is

kept : (o : Option Pos) (t : Token) → is_text word t ≡ false → ends_part t ≡ false → import_behind o t ≡ o
kept o t h i = ap (λ b. cond b (Some t.at) (cond (ends_part t) None o)) h ∙ ap (λ b. cond b None o) i

ended : (o : Option Pos) (t : Token) → is_text word t ≡ false → ends_part t ≡ true → import_behind o t ≡ None
ended o t h i = ap (λ b. cond b (Some t.at) (cond (ends_part t) None o)) h ∙ ap (λ b. cond b None o) i

both_none : (b : Bool) → cond b (let n : Option Pos = None in n) None ≡ None
both_none true = refl
both_none false = refl

none : (t : Token) → is_text word t ≡ false → import_behind None t ≡ None
none t h = ap (λ b. cond b (Some t.at) (cond (ends_part t) None None)) h ∙ both_none (ends_part t)

-- One step.

by_text : (g h : Stage) (s n : State) (text : List ℕ) (t : Token) → on (is_text text t) (at_stage s h) ≡ Some n → standing g ≡ None → standing h ≡ None → is_begun h ≡ true → (Fits (Fixed text) t → is_text word t ≡ false) → Follows g t n.stage
by_text g h s n text t e a b c f =
    let o : (is_text text t ≡ true) × (at_stage s h ≡ n) = on_some (is_text text t) (at_stage s h) n e in
    moved g t (at_stage s h) n o.1 (ap (λ p. import_behind p t) a ∙ none t (f (fixed_of text t o.0)) ∙ sym b, c)

by_name : (g h : Stage) (s n : State) (t : Token) → on (is_name t) (at_stage s h) ≡ Some n → standing g ≡ None → standing h ≡ None → is_begun h ≡ true → Follows g t n.stage
by_name g h s n t e a b c =
    let o : (is_name t ≡ true) × (at_stage s h ≡ n) = on_some (is_name t) (at_stage s h) n e in
    moved g t (at_stage s h) n o.1 (ap (λ p. import_behind p t) a ∙ none t (name_no_text word t o.0 refl) ∙ sym b, c)

by_behind : (g next : Stage) (s n : State) (t : Token) → behind_part s next t ≡ Some n → standing next ≡ None → is_begun next ≡ true → Follows g t n.stage
by_behind g next s n t e b c =
    elim (pick (is_next t) (at_stage s next) n (on (is_close s t) (at_stage s stage.End)) e) as (λ k. Follows g t n.stage) [
      | inl o ↦ moved g t (at_stage s next) n o.1 (ended (standing g) t (next_no_text word t (next_of t o.0) refl) (next_ends t o.0) ∙ sym b, c)
      | inr o ↦
          let r : (is_close s t ≡ true) × (at_stage s stage.End ≡ n) = on_some (is_close s t) (at_stage s stage.End) n o in
          moved g t (at_stage s stage.End) n r.1 (ended (standing g) t (close_no_text s.put word t (close_of s.put t r.0) refl) (close_ends s.put t r.0), refl)
    ]

by_data : (g next : Stage) (s n : State) (t : Token) → at_data s next t ≡ Some n → standing g ≡ None → standing next ≡ None → is_begun next ≡ true → Follows g t n.stage
by_data g next s n t e a b c =
    elim (pick (is_text (codes "data") t) (at_stage s stage.DataType) n (behind_part s next t) e) as (λ k. Follows g t n.stage) [
      | inl o ↦ moved g t (at_stage s stage.DataType) n o.1 (ap (λ p. import_behind p t) a ∙ none t (fixed_not (codes "data") word t (fixed_of (codes "data") t o.0) refl), refl)
      | inr o ↦ by_behind g next s n t o b c
    ]

by_part : (s n : State) (t : Token) → at_part s t ≡ Some n → Follows stage.Body t n.stage
by_part s n t e =
    elim (pick (is_text word t) (at_stage s (stage.Import t.at)) n (at_data s stage.Body t) e) as (λ k. Follows stage.Body t n.stage) [
      | inl o ↦ moved stage.Body t (at_stage s (stage.Import t.at)) n o.1 (ap (λ b. cond b (Some t.at) (cond (ends_part t) None None)) o.0, refl)
      | inr o ↦ by_data stage.Body stage.Body s n t o refl refl refl
    ]

by_fields : (s n : State) (d : DataItem) (t : Token) → step_at s (stage.Fields d) t ≡ Some n → Follows (stage.Fields d) t n.stage
by_fields s n d t e =
    let h : Stage = stage.Fields (with_field d (word_of t)) in
    elim (pick (is_name t) (at_stage s h) n (behind_part (with_data s d) stage.Datas t) e) as (λ k. Follows (stage.Fields d) t n.stage) [
      | inl o ↦ moved (stage.Fields d) t (at_stage s h) n o.1 (none t (name_no_text word t o.0 refl), refl)
      | inr o ↦ by_behind (stage.Fields d) stage.Datas (with_data s d) n t o refl refl
    ]

follows_at : (s n : State) (g : Stage) (t : Token) → step_at s g t ≡ Some n → Follows g t n.stage
follows_at s n stage.Start t e = by_text stage.Start stage.Name s n (codes "module") t e refl refl refl (λ f. fixed_not (codes "module") word t f refl)
follows_at s n stage.Name t e =
    let o : (is_module t ≡ true) × (at_stage s stage.Where ≡ n) = on_some (is_module t) (at_stage s stage.Where) n e in
    moved stage.Name t (at_stage s stage.Where) n o.1 (none t (module_no_text word t (module_of t o.0)), refl)
follows_at s n stage.Where t e = by_text stage.Where stage.Open s n (codes "where") t e refl refl refl (λ f. fixed_not (codes "where") word t f refl)
follows_at s n stage.Open t e =
    let o : (put : Bool) × (opened t.put t.kind t.text ≡ Some put) × (record { stage = stage.Body; put = put; written = s.written } ≡ n) = opened_to s n (opened t.put t.kind t.text) e in
    moved stage.Open t (record { stage = stage.Body; put = o.0; written = s.written }) n o.2 (none t (open_no_text o.0 word t (open_of o.0 t o.1) refl), refl)
follows_at s n stage.Body t e = by_part s n t e
follows_at s n (stage.Import at) t e =
    let o : (is_import t ≡ true) × (at_stage s (stage.Imported at) ≡ n) = on_some (is_import t) (at_stage s (stage.Imported at)) n e in
    let m : Fits Imported t = import_of t o.0 in
    moved (stage.Import at) t (at_stage s (stage.Imported at)) n o.1 (kept (Some at) t (module_no_text word t m.0) (module_no_end t m.0), refl)
follows_at s n (stage.Imported at) t e = by_behind (stage.Imported at) stage.Body s n t e refl refl
follows_at s n stage.Datas t e = by_data stage.Datas stage.Datas s n t e refl refl refl
follows_at s n stage.DataType t e = by_name stage.DataType (stage.DataEquals (word_of t)) s n t e refl refl refl
follows_at s n (stage.DataEquals ty) t e = by_text (stage.DataEquals ty) (stage.DataCon ty) s n (codes "=") t e refl refl refl (λ f. fixed_not (codes "=") word t f refl)
follows_at s n (stage.DataCon ty) t e = by_name (stage.DataCon ty) (stage.Fields (record { ty = ty; con = word_of t; fields = [] })) s n t e refl refl refl
follows_at s n (stage.Fields d) t e = by_fields s n d t e
follows_at s n stage.End t e = absurd (cc)

-- Many steps.

stands : (ts : List Token) (s k : State) → is_begun s.stage ≡ true → run s ts ≡ Some k → (open_import (standing s.stage) ts ≡ standing k.stage) × (is_begun k.stage ≡ true)
stands [] s k b h = let e : s ≡ k = cc in (ap (λ (m : State). standing m.stage) e, subst (λ (m : State). is_begun m.stage ≡ true) e b)
stands (t ∷ ts) s k b h =
    let e : (m : State) × (step s t ≡ Some m) × (run m ts ≡ Some k) = carried_some (step s t) (λ m. run m ts) k h in
    let f : Follows s.stage t e.0.stage = follows_at s e.0 s.stage t e.1 in
    let r : (open_import (standing e.0.stage) ts ≡ standing k.stage) × (is_begun k.stage ≡ true) = stands ts e.0 k f.1 e.2 in (ap (λ o. open_import o ts) f.0 ∙ r.0, r.1)

pub told-behind : (ts : List Token) (k : State) (t : Token) → run start ts ≡ Some k → told_behind ts t ≡ told k.stage t
told-behind [] k t h = let e : start ≡ k = cc in ap (λ (m : State). told m.stage t) e
told-behind (u ∷ us) k t h =
    let e : (m : State) × (step start u ≡ Some m) × (run m us ≡ Some k) = carried_some (step start u) (λ m. run m us) k h in
    let f : Follows stage.Start u e.0.stage = follows_at start e.0 stage.Start u e.1 in
    let r : (open_import (standing e.0.stage) us ≡ standing k.stage) × (is_begun k.stage ≡ true) = stands us e.0 k f.1 e.2 in
    ap (λ o. place_in o t.at) (ap (λ o. open_import o us) f.0 ∙ r.0) ∙ sym (told-begun k.stage t r.1)
