-- Tables that keep a row for each name.
use Rattle.std.proofs.Common.{◌≡◌, ℕ, Bool, true, false, ◌&&◌, List, [], ◌∷◌, ◌++◌, cond, nat_eq, Some, None, refl, ap, sym, ◌∙◌, append-nil}
use Rattle.std.specs.declared.option.Option.{Option}
use Rattle.std.specs.Global.{Vec}
use Rattle.std.specs.Cmp.Lexicographic.{nat_list_eq_equiv}
use Rattle.std.proofs.lemmas.Bool.{and_parts}
use Rattle.std.proofs.lemmas.Slice.Eq.{bytes_eq-Decides}
use denote.Enum.Bare.{sameb}
use Rattle.mk_base.specs.contracts.name.Space as space
use Rattle.mk_base.specs.contracts.name.NamePartialEq.TheImpl as derived
use Rattle.mk_base.specs.Order.{place_of_space}
use Rattle.mk_base.specs.Texts.{same_text}
use Rattle.mk_base.specs.declared.name.Space.{Space}
use Rattle.mk_base.specs.declared.name.Space.TheVariants.{Var, Con, Ty}
use Rattle.mk_base.specs.declared.name.Name.{Name}
use Rattle.mk_base.specs.declared.name.ModName.{ModName}
use Rattle.face_model.specs.Environments.{same_name}
use Rattle.face_envs.specs.Tables.{row_of, same_module}

texts_tell : (a b : List ℕ) → same_text a b ≡ true → a ≡ b
texts_tell a b e = (bytes_eq-Decides a b).0 e

texts_turn : (a b : List ℕ) → same_text a b ≡ same_text b a
texts_turn a b = nat_list_eq_equiv.symm a b

abbrev same_space : Space → Space → Bool
same_space a b = nat_eq (place_of_space a) (place_of_space b)

spaces_tell : (a b : Space) → same_space a b ≡ true → a ≡ b
spaces_tell Var Var e = refl
spaces_tell Var Con e = absurd (let h : ⊥ = cc in h)
spaces_tell Var Ty e = absurd (let h : ⊥ = cc in h)
spaces_tell Con Var e = absurd (let h : ⊥ = cc in h)
spaces_tell Con Con e = refl
spaces_tell Con Ty e = absurd (let h : ⊥ = cc in h)
spaces_tell Ty Var e = absurd (let h : ⊥ = cc in h)
spaces_tell Ty Con e = absurd (let h : ⊥ = cc in h)
spaces_tell Ty Ty e = refl

spaces_turn : (a b : Space) → same_space a b ≡ same_space b a
spaces_turn Var Var = refl
spaces_turn Var Con = refl
spaces_turn Var Ty = refl
spaces_turn Con Var = refl
spaces_turn Con Con = refl
spaces_turn Con Ty = refl
spaces_turn Ty Var = refl
spaces_turn Ty Con = refl
spaces_turn Ty Ty = refl

-- the derived test of names is the test of the definitions
spaces_same : (a b : Space) → sameb space.the_type a b ≡ same_space a b
spaces_same Var Var = refl
spaces_same Var Con = refl
spaces_same Var Ty = refl
spaces_same Con Var = refl
spaces_same Con Con = refl
spaces_same Con Ty = refl
spaces_same Ty Var = refl
spaces_same Ty Con = refl
spaces_same Ty Ty = refl

pub names_same : derived.eq-value.it ≡ same_name
names_same = λ i a b. same_text a.unit.text b.unit.text && (same_text a.module.text b.module.text && (spaces_same a.occ.space b.occ.space i && same_text a.occ.text b.occ.text))

-- the test of names tells them apart
pub names_tell : (a b : Name) → same_name a b ≡ true → a ≡ b
names_tell a b e =
    let p = and_parts (same_text a.unit.text b.unit.text) (same_text a.module.text b.module.text && (same_space a.occ.space b.occ.space && same_text a.occ.text b.occ.text)) e in
    let q = and_parts (same_text a.module.text b.module.text) (same_space a.occ.space b.occ.space && same_text a.occ.text b.occ.text) p.1 in
    let r = and_parts (same_space a.occ.space b.occ.space) (same_text a.occ.text b.occ.text) q.1 in
    let u = texts_tell a.unit.text b.unit.text p.0 in
    let m = texts_tell a.module.text b.module.text q.0 in
    let s = spaces_tell a.occ.space b.occ.space r.0 in
    let t = texts_tell a.occ.text b.occ.text r.1 in
    λ i. record { unit = record { text = u i }; «module» = record { text = m i }; occ = record { space = s i; text = t i } }

pub names_turn : (a b : Name) → same_name a b ≡ same_name b a
names_turn a b =
    λ i. texts_turn a.unit.text b.unit.text i && (texts_turn a.module.text b.module.text i && (spaces_turn a.occ.space b.occ.space i && texts_turn a.occ.text b.occ.text i))

pub modules_tell : (a b : ModName) → same_module a b ≡ true → a ≡ b
modules_tell a b e =
    let t = texts_tell a.text b.text e in
    λ i. record { text = t i }

pub modules_turn : (a b : ModName) → same_module a b ≡ same_module b a
modules_turn a b = texts_turn a.text b.text

either : {G : Type 0} (b : Bool) → (b ≡ true → G) → (b ≡ false → G) → G
either true f g = f refl
either false f g = g refl

module _ {K A : Type 0} (same : K → K → Bool) (tell : (a b : K) → same a b ≡ true → a ≡ b) (turn : (a b : K) → same a b ≡ same b a) where
  -- the row of one key is changed
  pub row_put : (F : List A → List A) (f g : K → Option (Vec A)) (k m : K) (w : Vec A) → g m ≡ cond (same k m) (Some w) (f m) → w.items ≡ F (row_of (f k))
      → row_of (g m) ≡ cond (same m k) (F (row_of (f m))) (row_of (f m))
  row_put F f g k m w e is =
      either (same k m)
      (λ s.
      ap row_of (e ∙ ap (λ b. cond b (Some w) (f m)) s)
      ∙ (is
      ∙ (ap (λ j. F (row_of (f j))) (tell k m s)
      ∙ sym (ap (λ b. cond b (F (row_of (f m))) (row_of (f m))) (turn m k ∙ s)))))
      (λ s.
      ap row_of (e ∙ ap (λ b. cond b (Some w) (f m)) s)
      ∙ sym (ap (λ b. cond b (F (row_of (f m))) (row_of (f m))) (turn m k ∙ s)))

  -- the row of one key gets one element more at its end
  pub row_more : (f g : K → Option (Vec A)) (k m : K) (w : Vec A) (x : A) → g m ≡ cond (same k m) (Some w) (f m) → w.items ≡ row_of (f k) ++ x ∷ []
      → row_of (g m) ≡ row_of (f m) ++ cond (same m k) (x ∷ []) []
  row_more f g k m w x e is =
      either (same k m)
      (λ s.
      ap row_of (e ∙ ap (λ b. cond b (Some w) (f m)) s)
      ∙ (is
      ∙ (ap (λ j. row_of (f j) ++ x ∷ []) (tell k m s)
      ∙ sym (ap (λ b. row_of (f m) ++ cond b (x ∷ []) []) (turn m k ∙ s)))))
      (λ s.
      ap row_of (e ∙ ap (λ b. cond b (Some w) (f m)) s)
      ∙ (sym (append-nil (row_of (f m)))
      ∙ sym (ap (λ b. row_of (f m) ++ cond {A = List A} b (x ∷ []) []) (turn m k ∙ s))))

-- one row of a table of tables is changed
pub nested_put : {K T A : Type 0} (same : K → K → Bool) (tell : (a b : K) → same a b ≡ true → a ≡ b) (turn : (a b : K) → same a b ≡ same b a)
    → (row : Option T → List A) (F : List A → List A) (f g : K → Option T) (k m : K) (t : T) (b : Bool)
    → g m ≡ cond (same k m) (Some t) (f m) → row (Some t) ≡ cond b (F (row (f k))) (row (f k))
    → row (g m) ≡ cond (same m k && b) (F (row (f m))) (row (f m))
nested_put {K} {T} same tell turn row F f g k m t b e is =
    either (same k m)
    (λ s.
    ap row (e ∙ ap (λ c. cond c (Some t) (f m)) s)
    ∙ (is
    ∙ (ap (λ j. cond b (F (row (f j))) (row (f j))) (tell k m s)
    ∙ sym (ap (λ c. cond (c && b) (F (row (f m))) (row (f m))) (turn m k ∙ s)))))
    (λ s.
    ap row (e ∙ ap (λ c. cond c (Some t) (f m)) s)
    ∙ sym (ap (λ c. cond (c && b) (F (row (f m))) (row (f m))) (turn m k ∙ s)))
