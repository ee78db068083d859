-- What is read as a declaration is spelled so, and what is spelled is read again.
use Rattle.std.proofs.Common.{◌≡◌, ℕ, zero, suc, ◌+◌, ◌-◌, ◌*◌, ◌^◌, ◌<◌, ◌≤◌, Bool, true, false, List, [], ◌∷◌, ◌++◌, length, Option, Some, None, sym, ap, subst, ◌∙◌, append_assoc, arith, inl, inr, refl}
use Rattle.std.specs.Prelude.{nat_eq, nat_lt, cond}
use Rattle.std.proofs.lemmas.Bool.{eqb-true, eqb-false, ltb-true, ltb-false, lt-ltb, le-ltb}
use Rattle.mk_base.specs.declared.name.Name.{Name}
use Rattle.mk_base.specs.declared.kind.Kind.{Kind}
use Rattle.mk_base.specs.declared.ty.Ty.{Ty}
use Rattle.face_model.specs.declared.fixity.Assoc.{Assoc}
use Rattle.face_model.specs.declared.fixity.Assoc.TheVariants.{Left, Right, Neither}
use Rattle.face_model.specs.declared.fixity.Fixity.{Fixity}
use Rattle.face_model.specs.declared.scheme.Constraint.{Constraint}
use Rattle.face_model.specs.declared.scheme.Scheme.{Scheme}
use Rattle.face_model.specs.declared.decl.Field.{Field}
use Rattle.face_model.specs.declared.decl.Constr.{Constr}
use Rattle.face_model.specs.declared.decl.Method.{Method}
use Rattle.face_model.specs.declared.decl.Body.{Body}
use Rattle.face_model.specs.declared.decl.Body.TheVariants.{Value, Alg, Synonym, Class, Abstract}
use Rattle.face_model.specs.declared.decl.Decl.{Decl}
use Rattle.wire.specs.Wire.{num, list_of, AreMembers}
use Rattle.wire.specs.Reading.{◌>>=◌, byte_at, list_at}
use Rattle.wire.proofs.Codes.{IsCode, IsBytes, rest_is_bytes, bind_some, some_is, chosen, byte_code, field, last, by_words, read_alike, num_code, text_code, list_code}
use Rattle.decl_codec.specs.Blobs as spec
use Rattle.decl_codec.specs.Blobs.{flag_byte, flag, assoc_number, fix_byte, fix, FixFits, kind_bytes, KindFits, ConstraintFits, SchemeFits, FieldFits, ConstrFits, MethodFits, BodyFits, DeclFits, TyFits, ty_bytes}
use Rattle.decl_codec.specs.Reading.{flag_of, flag_at, fix_of, fix_at, kind_at, ty_at, constraint_at, scheme_at, field_at, constr_at, method_at, value_at, alg_at, synonym_at, class_at, abstract_at, body_tagged, body_at, decl_at}
use Rattle.decl_codec.proofs.Layers.{differ}
use Rattle.decl_codec.proofs.Trees.{kind_code, ty_code}

-- a value and the bytes behind it
abbrev pub paired : {A : Type 0} → A → List ℕ → Option (A × List ℕ)
paired a rest = Some (a, rest)

-- ---- bytes that stand for something

module _ {A : Type 0} {Fits : A → Type 0} (of : ℕ → Option A) (byte : A → ℕ) (told : (b : ℕ) (a : A) → of b ≡ Some a → Fits a × (b ≡ byte a)) (back : (a : A) → Fits a → of (byte a) ≡ Some a) where
  byte_takes : (bytes : List ℕ) (y : A × List ℕ) → IsBytes bytes → (byte_at bytes >>= λ b. of b.0 >>= λ a. paired a b.1) ≡ Some y → Fits y.0 × (bytes ≡ byte y.0 ∷ y.1)
  byte_takes bytes y fits e =
      let s = bind_some (byte_at bytes) (λ b. of b.0 >>= λ a. paired a b.1) y e in
      let u = bind_some (of s.0.0) (λ a. paired a s.0.1) y s.2 in
      let t = byte_code.takes bytes s.0 fits s.1 in
      let p = told s.0.0 u.0 u.1 in
      subst (λ (z : A × List ℕ). Fits z.0 × (bytes ≡ byte z.0 ∷ z.1)) (some_is (u.0, s.0.1) y u.2) (p.0, t.1 ∙ ap (λ b. b ∷ s.0.1) p.1)

  byte_again : (a : A) (rest : List ℕ) → Fits a → (byte_at (byte a ∷ rest) >>= λ b. of b.0 >>= λ a. paired a b.1) ≡ Some (a, rest)
  unfolding byte_at
  byte_again a rest fits = ap (λ o. o >>= λ a. paired a rest) (back a fits)

  pub byte_coded : IsCode Fits (λ a. byte a ∷ []) (λ bytes. byte_at bytes >>= λ b. of b.0 >>= λ a. paired a b.1)
  byte_coded = record { takes = byte_takes; again = byte_again }

flag_told : (b : ℕ) (a : Bool) → flag_of b ≡ Some a → Unit {0} × (b ≡ flag_byte a)
flag_told b a e =
    elim (chosen (nat_eq b 0) _ _ (Some a) e) [
      | inl c ↦ subst (λ a. Unit {0} × (b ≡ flag_byte a)) (some_is false a c.1) (tt, eqb-true b 0 c.0)
      | inr c ↦ elim (chosen (nat_eq b 1) _ _ (Some a) c.1) [
        | inl d ↦ subst (λ a. Unit {0} × (b ≡ flag_byte a)) (some_is true a d.1) (tt, eqb-true b 1 d.0)
        | inr d ↦ absurd (let h : ⊥ = let g = d.1 in cc in h)
      ]
    ]

flag_back : (a : Bool) → Unit {0} → flag_of (flag_byte a) ≡ Some a
flag_back true u = refl
flag_back false u = refl

pub flag_code : IsCode (λ b. Unit {0}) flag flag_at
unfolding flag_at
flag_code = byte_coded flag_of flag_byte flag_told flag_back

fixity : Assoc → ℕ → Option Fixity
fixity s n = Some (record { assoc = s; level = n })

fix_told : (b : ℕ) (a : Option Fixity) → fix_of b ≡ Some a → FixFits a × (b ≡ fix_byte a)
fix_told b a e =
    let told : Option Fixity → Type 0 = λ a. FixFits a × (b ≡ fix_byte a) in
    elim (chosen (nat_eq b 0) _ _ (Some a) e) [
      | inl c ↦ subst told (some_is None a c.1) (tt, eqb-true b 0 c.0)
      | inr c ↦
          let some : (b ≡ 0 → ⊥) = eqb-false b 0 c.0 in
          elim (chosen (nat_lt b 11) _ _ (Some a) c.1) [
            | inl d ↦ let h : b < 11 = ltb-true b 11 d.0 in subst told (some_is (Some (record { assoc = Left; level = b - 1 })) a d.1) (omega (arith, h), omega (arith, h, some))
            | inr d ↦
                let g : 11 ≤ b = ltb-false b 11 d.0 in
                elim (chosen (nat_lt b 21) _ _ (Some a) d.1) [
                  | inl f ↦ let h : b < 21 = ltb-true b 21 f.0 in subst told (some_is (Some (record { assoc = Right; level = b - 11 })) a f.1) (omega (arith, h), omega (arith, h, g))
                  | inr f ↦
                      let k : 21 ≤ b = ltb-false b 21 f.0 in
                      elim (chosen (nat_lt b 31) _ _ (Some a) f.1) [
                        | inl m ↦ let h : b < 31 = ltb-true b 31 m.0 in subst told (some_is (Some (record { assoc = Neither; level = b - 21 })) a m.1) (omega (arith, h), omega (arith, h, k))
                        | inr m ↦ absurd (let h : ⊥ = let z = m.1 in cc in h)
                      ]
                ]
          ]
    ]

fix_back_at : (s : Assoc) (n : ℕ) → n ≤ 9 → fix_of (1 + 10 * assoc_number s + n) ≡ Some (Some (record { assoc = s; level = n }))
fix_back_at Left n h =
    let some : nat_eq (1 + 10 * 0 + n) 0 ≡ false = differ _ _ (λ e. absurd (omega (arith, e))) in
    let low : nat_lt (1 + 10 * 0 + n) 11 ≡ true = lt-ltb _ _ (omega (arith, h)) in
    let is : 1 + 10 * 0 + n - 1 ≡ n = omega arith in
    rw (some, low, is) refl
fix_back_at Right n h =
    let some : nat_eq (1 + 10 * 1 + n) 0 ≡ false = differ _ _ (λ e. absurd (omega (arith, e))) in
    let high : nat_lt (1 + 10 * 1 + n) 11 ≡ false = le-ltb _ _ (omega arith) in
    let low : nat_lt (1 + 10 * 1 + n) 21 ≡ true = lt-ltb _ _ (omega (arith, h)) in
    let is : 1 + 10 * 1 + n - 11 ≡ n = omega arith in
    rw (some, high, low, is) refl
fix_back_at Neither n h =
    let some : nat_eq (1 + 10 * 2 + n) 0 ≡ false = differ _ _ (λ e. absurd (omega (arith, e))) in
    let high : nat_lt (1 + 10 * 2 + n) 11 ≡ false = le-ltb _ _ (omega arith) in
    let higher : nat_lt (1 + 10 * 2 + n) 21 ≡ false = le-ltb _ _ (omega arith) in
    let low : nat_lt (1 + 10 * 2 + n) 31 ≡ true = lt-ltb _ _ (omega (arith, h)) in
    let is : 1 + 10 * 2 + n - 21 ≡ n = omega arith in
    rw (some, high, higher, low, is) refl

fix_back : (a : Option Fixity) → FixFits a → fix_of (fix_byte a) ≡ Some a
fix_back None u = refl
fix_back (Some f) h = fix_back_at f.assoc f.level h

pub fix_code : IsCode FixFits fix fix_at
unfolding fix_at
fix_code = byte_coded fix_of fix_byte fix_told fix_back

-- ---- two parts, and what is made of two or three

abbrev pub duo : {A B : Type 0} → A → B → A × B
duo a b = (a, b)

pub pair_code : {A B : Type 0} {Fits : A → Type 0} {spell : A → List ℕ} {read : List ℕ → Option (A × List ℕ)} {Rest : A → B → Type 0} {tail : A → B → List ℕ} {next : A → List ℕ → Option (B × List ℕ)}
    → IsCode Fits spell read → ((a : A) → Fits a → IsCode (Rest a) (tail a) (next a))
    → IsCode (λ (x : A × B). Fits x.0 × Rest x.0 x.1) (λ x. spell x.0 ++ tail x.0 x.1) (λ bytes. read bytes >>= λ a. next a.0 a.1 >>= λ b. paired (duo a.0 b.0) b.1)
pair_code {A = A} {B = B} first others =
    by_words (λ x p. (p.0, p.1.0)) (λ x p. (p.0, (p.1, refl)))
    (field (λ (x : A × B). x.0) first (λ a p. last (λ (x : A × B). x.1) (λ b. duo a b) (others a p) (λ b. refl)) (λ a x g. ap (λ (y : A × B). y.0) g.1))

behind_two : {A B C : Type 0} (n : Option (B × List ℕ)) (a : A) (made : A → B → C)
    → (n >>= λ b. paired (made a b.0) b.1) ≡ ((n >>= λ b. paired (duo a b.0) b.1) >>= λ (x : (A × B) × List ℕ). paired (made x.0.0 x.0.1) x.1)
behind_two None a made = refl
behind_two (Some b) a made = refl

pub made_of_two : {A B C : Type 0} (m : Option (A × List ℕ)) (n : A → List ℕ → Option (B × List ℕ)) (made : A → B → C)
    → (m >>= λ a. n a.0 a.1 >>= λ b. paired (made a.0 b.0) b.1) ≡ ((m >>= λ a. n a.0 a.1 >>= λ b. paired (duo a.0 b.0) b.1) >>= λ (x : (A × B) × List ℕ). paired (made x.0.0 x.0.1) x.1)
made_of_two None n made = refl
made_of_two (Some a) n made = behind_two (n a.0 a.1) a.0 made

last_of : {A B C D : Type 0} (r : Option (C × List ℕ)) (a : A) (b : B) (made : A → B → C → D)
    → (r >>= λ c. paired (made a b c.0) c.1) ≡ (((r >>= λ c. paired (duo b c.0) c.1) >>= λ (y : (B × C) × List ℕ). paired (duo a y.0) y.1) >>= λ (x : (A × (B × C)) × List ℕ). paired (made x.0.0 x.0.1.0 x.0.1.1) x.1)
last_of None a b made = refl
last_of (Some c) a b made = refl

behind_three : {A B C D : Type 0} (n : Option (B × List ℕ)) (o : B → List ℕ → Option (C × List ℕ)) (a : A) (made : A → B → C → D)
    → (n >>= λ b. o b.0 b.1 >>= λ c. paired (made a b.0 c.0) c.1)
    ≡ (((n >>= λ b. o b.0 b.1 >>= λ c. paired (duo b.0 c.0) c.1) >>= λ (y : (B × C) × List ℕ). paired (duo a y.0) y.1) >>= λ (x : (A × (B × C)) × List ℕ). paired (made x.0.0 x.0.1.0 x.0.1.1) x.1)
behind_three None o a made = refl
behind_three (Some b) o a made = last_of (o b.0 b.1) a b.0 made

pub made_of_three : {A B C D : Type 0} (m : Option (A × List ℕ)) (n : A → List ℕ → Option (B × List ℕ)) (o : A → B → List ℕ → Option (C × List ℕ)) (made : A → B → C → D)
    → (m >>= λ a. n a.0 a.1 >>= λ b. o a.0 b.0 b.1 >>= λ c. paired (made a.0 b.0 c.0) c.1)
    ≡ ((m >>= λ a. (n a.0 a.1 >>= λ b. o a.0 b.0 b.1 >>= λ c. paired (duo b.0 c.0) c.1) >>= λ (y : (B × C) × List ℕ). paired (duo a.0 y.0) y.1) >>= λ (x : (A × (B × C)) × List ℕ). paired (made x.0.0 x.0.1.0 x.0.1.1) x.1)
made_of_three None n o made = refl
made_of_three (Some a) n o made = behind_three (n a.0 a.1) (o a.0) a.0 made

-- what is made of what is read
pub made_takes : {A B : Type 0} {Fits : A → Type 0} {spell : A → List ℕ} {read : List ℕ → Option (A × List ℕ)} → IsCode Fits spell read → (made : A → B)
    → (bytes : List ℕ) (x : B × List ℕ) → IsBytes bytes → (read bytes >>= λ a. Some (made a.0, a.1)) ≡ Some x → (a : A) × Fits a × (x.0 ≡ made a) × (bytes ≡ spell a ++ x.1)
made_takes {A = A} {B = B} {Fits = Fits} {spell = spell} {read = read} code made bytes x fits e =
    let s = bind_some (read bytes) (λ a. Some (made a.0, a.1)) x e in
    let t = code.takes bytes s.0 fits s.1 in
    let is : (made s.0.0, s.0.1) ≡ x = some_is (made s.0.0, s.0.1) x s.2 in
    subst (λ (y : B × List ℕ). (a : A) × Fits a × (y.0 ≡ made a) × (bytes ≡ spell a ++ y.1)) is (s.0.0, t.0, refl, t.1)

-- ---- schemes, constructors, methods and bodies

module _ (Known : Name → Type 0) (spell_name : Name → List ℕ) (read_name : List ℕ → Option (Name × List ℕ)) (code : IsCode Known spell_name read_name) where
  pub constraint_code : (count : ℕ) → count ≤ 2 ^ 32 → IsCode (ConstraintFits Known count) (spec.constraint spell_name) (constraint_at read_name count)
  unfolding constraint_at
  constraint_code count few =
      by_words (λ c p. (p.0, p.1.0)) (λ c p. (p.0, (p.1, refl)))
      (field (λ c. c.class) code (λ a p. last (λ c. c.ty) (λ t. record { class = a; ty = t }) (ty_code Known spell_name read_name code count few) (λ t. refl)) (λ a c g. ap (λ (c : Constraint). c.class) g.1))

  scheme_code : IsCode (SchemeFits Known) (spec.scheme spell_name) (scheme_at read_name)
  unfolding scheme_at
  scheme_code =
      by_words (λ s p. (p.0, p.1.0, p.1.1.0)) (λ s p. (p.0, (p.1, (p.2, refl))))
      (field (λ s. s.vars) num_code (λ v p.
      field (λ s. s.context) (list_code (constraint_code v (omega (arith, p)))) (λ c q.
      last (λ s. s.body) (λ t. record { vars = v; context = c; body = t }) (ty_code Known spell_name read_name code v (omega (arith, p))) (λ t. refl))
      (λ c s g. ap (λ (s : Scheme). s.context) g.1)) (λ v s g. ap (λ (s : Scheme). s.vars) g.1.1))

  field_code : (count : ℕ) → count ≤ 2 ^ 32 → IsCode (FieldFits Known count) (spec.field spell_name) (field_at read_name count)
  unfolding field_at
  field_code count few =
      by_words (λ f p. (p.0, p.1.0, p.1.1.1.0)) (λ f p. (p.0, (p.1, (tt, (p.2, refl)))))
      (field (λ f. f.label) text_code (λ l p.
      field (λ f. f.fixity) fix_code (λ x q.
      field (λ f. f.strict) flag_code (λ s r.
      last (λ f. f.ty) (λ t. record { label = l; fixity = x; strict = s; ty = t }) (ty_code Known spell_name read_name code count few) (λ t. refl))
      (λ s f g. ap (λ (f : Field). f.strict) g.1)) (λ x f g. ap (λ (f : Field). f.fixity) g.1.1)) (λ l f g. ap (λ (f : Field). f.label) g.1.1.1))

  constr_code : (count : ℕ) → count ≤ 2 ^ 32 → IsCode (ConstrFits Known count) (spec.constr spell_name) (constr_at read_name count)
  unfolding constr_at
  constr_code count few =
      by_words (λ c p. (p.0, p.1.0, p.1.1.0)) (λ c p. (p.0, (p.1, (p.2, refl))))
      (field (λ c. c.occ) text_code (λ o p.
      field (λ c. c.fixity) fix_code (λ x q.
      last (λ c. c.fields) (λ fs. record { occ = o; fixity = x; fields = fs }) (list_code (field_code count few)) (λ fs. refl))
      (λ x c g. ap (λ (c : Constr). c.fixity) g.1)) (λ o c g. ap (λ (c : Constr). c.occ) g.1.1))

  method_code : IsCode (MethodFits Known) (spec.method spell_name) (method_at read_name)
  unfolding method_at
  method_code =
      by_words (λ m p. (p.0, p.1.0, p.1.1.0)) (λ m p. (p.0, (p.1, (p.2, refl))))
      (field (λ m. m.occ) text_code (λ o p.
      field (λ m. m.fixity) fix_code (λ x q.
      last (λ m. m.scheme) (λ s. record { occ = o; fixity = x; scheme = s }) scheme_code (λ s. refl))
      (λ x m g. ap (λ (m : Method). m.fixity) g.1)) (λ o m g. ap (λ (m : Method). m.occ) g.1.1))

  -- ---- what stands behind the tag of a body

  alg_parts : IsCode (λ (x : List Kind × List Constr). AreMembers KindFits x.0 × AreMembers (ConstrFits Known (length x.0)) x.1)
      (λ x. list_of kind_bytes x.0 ++ list_of (spec.constr spell_name) x.1) (λ bytes. list_at kind_at bytes >>= λ a. list_at (constr_at read_name (length a.0)) a.1 >>= λ b. paired (duo a.0 b.0) b.1)
  alg_parts = pair_code (list_code kind_code) (λ ks p. list_code (constr_code (length ks) (omega (arith, p.0))))

  synonym_parts : IsCode (λ (x : List Kind × (Kind × Ty)). AreMembers KindFits x.0 × (KindFits x.1.0 × TyFits Known (length x.0) x.1.1))
      (λ x. list_of kind_bytes x.0 ++ (kind_bytes x.1.0 ++ ty_bytes spell_name x.1.1))
      (λ bytes. list_at kind_at bytes >>= λ a. (kind_at a.1 >>= λ b. ty_at read_name (length a.0) b.1 >>= λ c. paired (duo b.0 c.0) c.1) >>= λ y. paired (duo a.0 y.0) y.1)
  synonym_parts = pair_code (list_code kind_code) (λ ks p. pair_code kind_code (λ k q. ty_code Known spell_name read_name code (length ks) (omega (arith, p.0))))

  class_parts : IsCode (λ (x : Kind × (List Name × List Method)). KindFits x.0 × (AreMembers Known x.1.0 × AreMembers (MethodFits Known) x.1.1))
      (λ x. kind_bytes x.0 ++ (list_of spell_name x.1.0 ++ list_of (spec.method spell_name) x.1.1))
      (λ bytes. kind_at bytes >>= λ a. (list_at read_name a.1 >>= λ b. list_at (method_at read_name) b.1 >>= λ c. paired (duo b.0 c.0) c.1) >>= λ y. paired (duo a.0 y.0) y.1)
  class_parts = pair_code kind_code (λ k p. pair_code (list_code code) (λ ss q. list_code method_code))

  abbrev IsTaken : List ℕ → Body × List ℕ → Type 0
  IsTaken bytes x = BodyFits Known x.0 × (bytes ≡ spec.body spell_name x.0 ++ x.1)

  abbrev alg_of : Bool → List Kind → List Constr → Body
  alg_of renamed ks cs = Alg renamed ks cs

  value_taken : (rest : List ℕ) (x : Body × List ℕ) → IsBytes rest → value_at read_name rest ≡ Some x → IsTaken (0 ∷ rest) x
  unfolding value_at
  value_taken rest x fits e =
      let m = made_takes scheme_code (λ s. Value s) rest x fits e in
      subst (λ b. IsTaken (0 ∷ rest) (b, x.1)) (sym m.2) (m.1, ap (λ r. 0 ∷ r) m.3)

  alg_taken : (renamed : Bool) (rest : List ℕ) (x : Body × List ℕ) → IsBytes rest → alg_at read_name renamed rest ≡ Some x → IsTaken (cond renamed 2 1 ∷ rest) x
  unfolding alg_at
  alg_taken renamed rest x fits e =
      let m = made_takes alg_parts (λ y. alg_of renamed y.0 y.1) rest x fits (sym (made_of_two (list_at kind_at rest) (λ ks r. list_at (constr_at read_name (length ks)) r) (alg_of renamed)) ∙ e) in
      subst (λ b. IsTaken (cond renamed 2 1 ∷ rest) (b, x.1)) (sym m.2) ((m.1.0, m.1.1), ap (λ r. cond renamed 2 1 ∷ r) m.3)

  synonym_taken : (rest : List ℕ) (x : Body × List ℕ) → IsBytes rest → synonym_at read_name rest ≡ Some x → IsTaken (3 ∷ rest) x
  unfolding synonym_at
  synonym_taken rest x fits e =
      let m = made_takes synonym_parts (λ y. Synonym y.0 y.1.0 y.1.1) rest x fits (sym (made_of_three (list_at kind_at rest) (λ ks r. kind_at r) (λ ks k r. ty_at read_name (length ks) r) (λ ks k t. Synonym ks k t)) ∙ e) in
      subst (λ b. IsTaken (3 ∷ rest) (b, x.1)) (sym m.2) ((m.1.0, m.1.1.0, m.1.1.1), ap (λ r. 3 ∷ r) m.3)

  class_taken : (rest : List ℕ) (x : Body × List ℕ) → IsBytes rest → class_at read_name rest ≡ Some x → IsTaken (4 ∷ rest) x
  unfolding class_at
  class_taken rest x fits e =
      let m = made_takes class_parts (λ y. Class y.0 y.1.0 y.1.1) rest x fits (sym (made_of_three (kind_at rest) (λ k r. list_at read_name r) (λ k ss r. list_at (method_at read_name) r) (λ k ss ms. Class k ss ms)) ∙ e) in
      subst (λ b. IsTaken (4 ∷ rest) (b, x.1)) (sym m.2) ((m.1.0, m.1.1.0, m.1.1.1), ap (λ r. 4 ∷ r) m.3)

  abstract_taken : (rest : List ℕ) (x : Body × List ℕ) → IsBytes rest → abstract_at read_name rest ≡ Some x → IsTaken (5 ∷ rest) x
  unfolding abstract_at
  abstract_taken rest x fits e =
      let m = made_takes (list_code kind_code) (λ ks. Abstract ks) rest x fits e in
      subst (λ b. IsTaken (5 ∷ rest) (b, x.1)) (sym m.2) (m.1, ap (λ r. 5 ∷ r) m.3)

  body_takes : (bytes : List ℕ) (x : Body × List ℕ) → IsBytes bytes → body_at read_name bytes ≡ Some x → IsTaken bytes x
  unfolding body_at body_tagged
  body_takes bytes x fits e =
      let s = bind_some (byte_at bytes) (body_tagged read_name) x e in
      let t = byte_code.takes bytes s.0 fits s.1 in
      let rest_fits = rest_is_bytes bytes (s.0.0 ∷ []) s.0.1 fits t.1 in
      let at_tag : (k : ℕ) → nat_eq s.0.0 k ≡ true → IsTaken (k ∷ s.0.1) x → IsTaken bytes x =
      λ k q h. (h.0, t.1 ∙ ap (λ b. b ∷ s.0.1) (eqb-true s.0.0 k q) ∙ h.1) in
      elim (chosen (nat_eq s.0.0 0) _ _ (Some x) s.2) [
        | inl c ↦ at_tag 0 c.0 (value_taken s.0.1 x rest_fits c.1)
        | inr c ↦ elim (chosen (nat_eq s.0.0 1) _ _ (Some x) c.1) [
          | inl d ↦ at_tag 1 d.0 (alg_taken false s.0.1 x rest_fits d.1)
          | inr d ↦ elim (chosen (nat_eq s.0.0 2) _ _ (Some x) d.1) [
            | inl f ↦ at_tag 2 f.0 (alg_taken true s.0.1 x rest_fits f.1)
            | inr f ↦ elim (chosen (nat_eq s.0.0 3) _ _ (Some x) f.1) [
              | inl g ↦ at_tag 3 g.0 (synonym_taken s.0.1 x rest_fits g.1)
              | inr g ↦ elim (chosen (nat_eq s.0.0 4) _ _ (Some x) g.1) [
                | inl h ↦ at_tag 4 h.0 (class_taken s.0.1 x rest_fits h.1)
                | inr h ↦ elim (chosen (nat_eq s.0.0 5) _ _ (Some x) h.1) [
                  | inl k ↦ at_tag 5 k.0 (abstract_taken s.0.1 x rest_fits k.1)
                  | inr k ↦ absurd (let z : ⊥ = let y = k.1 in cc in z)
                ]
              ]
            ]
          ]
        ]
      ]

  alg_again : (renamed : Bool) (ks : List Kind) (cs : List Constr) (rest : List ℕ) → BodyFits Known (Alg renamed ks cs)
      → alg_at read_name renamed ((list_of kind_bytes ks ++ list_of (spec.constr spell_name) cs) ++ rest) ≡ Some (Alg renamed ks cs, rest)
  unfolding alg_at
  alg_again renamed ks cs rest fits =
      made_of_two (list_at kind_at ((list_of kind_bytes ks ++ list_of (spec.constr spell_name) cs) ++ rest)) (λ ks r. list_at (constr_at read_name (length ks)) r) (alg_of renamed)
      ∙ ap (λ o. o >>= λ (x : (List Kind × List Constr) × List ℕ). paired (alg_of renamed x.0.0 x.0.1) x.1) (alg_parts.again (ks, cs) rest fits)

  body_again : (b : Body) (rest : List ℕ) → BodyFits Known b → body_at read_name (spec.body spell_name b ++ rest) ≡ Some (b, rest)
  unfolding body_at body_tagged byte_at value_at synonym_at class_at abstract_at
  body_again (Value s) rest fits = ap (λ o. o >>= λ x. paired (Value x.0) x.1) (scheme_code.again s rest fits)
  body_again (Alg true ks cs) rest fits = alg_again true ks cs rest fits
  body_again (Alg false ks cs) rest fits = alg_again false ks cs rest fits
  body_again (Synonym ks k t) rest fits =
      made_of_three (list_at kind_at ((list_of kind_bytes ks ++ (kind_bytes k ++ ty_bytes spell_name t)) ++ rest)) (λ ks r. kind_at r) (λ ks k r. ty_at read_name (length ks) r) (λ ks k t. Synonym ks k t)
      ∙ ap (λ o. o >>= λ (x : (List Kind × (Kind × Ty)) × List ℕ). paired (Synonym x.0.0 x.0.1.0 x.0.1.1) x.1) (synonym_parts.again (ks, (k, t)) rest (fits.0, (fits.1, fits.2)))
  body_again (Class k ss ms) rest fits =
      made_of_three (kind_at ((kind_bytes k ++ (list_of spell_name ss ++ list_of (spec.method spell_name) ms)) ++ rest)) (λ k r. list_at read_name r) (λ k ss r. list_at (method_at read_name) r) (λ k ss ms. Class k ss ms)
      ∙ ap (λ o. o >>= λ (x : (Kind × (List Name × List Method)) × List ℕ). paired (Class x.0.0 x.0.1.0 x.0.1.1) x.1) (class_parts.again (k, (ss, ms)) rest (fits.0, (fits.1, fits.2)))
  body_again (Abstract ks) rest fits = ap (λ o. o >>= λ x. paired (Abstract x.0) x.1) ((list_code kind_code).again ks rest fits)

  body_code : IsCode (BodyFits Known) (spec.body spell_name) (body_at read_name)
  body_code = record { takes = body_takes; again = body_again }

  -- the blob of a declaration of this name
  pub decl_code : (name : Name) → IsCode (λ d. DeclFits Known d × (d.name ≡ name)) (spec.blob spell_name) (decl_at read_name name)
  unfolding decl_at
  decl_code name =
      by_words (λ d p. ((p.0, p.1.0), ap (λ (d : Decl). d.name) p.1.1)) (λ d p. (p.0.0, (p.0.1, ap (λ n. record { name = n; fixity = d.fixity; body = d.body }) p.1)))
      (field (λ d. d.fixity) fix_code (λ f p.
      last (λ d. d.body) (λ b. record { name = name; fixity = f; body = b }) body_code (λ b. refl))
      (λ f d g. ap (λ (d : Decl). d.fixity) g.1))
