-- Reducing decides what follows.
use Rattle.std.proofs.Common.{◌≡◌, ◌⊎◌, ◌↔◌, inl, inr, ℕ, zero, suc, ◌<◌, ◌≤◌, List, [], ◌∷◌, ◌++◌, length, get_or, map, Option, Some, None, sym, ◌∙◌, ap, subst, refl, arith}
use Rattle.std.specs.List.{Contains}
use Rattle.std.proofs.lemmas.List.{append_assoc, append-nil, length-map}
use Rattle.std.proofs.lemmas.List.Elements.{Contains-append_left, Contains-append_right, Contains-append_cases}
use Rattle.mk_base.specs.declared.name.Name.{Name}
use Rattle.mk_base.specs.declared.ty.Ty.TheVariants as types
use Rattle.face_model.specs.declared.inst.Inst.{Inst}
use Rattle.face_model.specs.declared.scheme.Constraint.{Constraint}
use Rattle.face_model.specs.Environments.{Faces, insts_of}
use Rattle.class_env.specs.declared.outcome.Pair.{Pair}
use Rattle.class_env.specs.Terms.{Term, Var, Con, App, term_of}
use Rattle.class_env.specs.Spine.{Head, Variable, Constructor, head, arguments, place}
use Rattle.class_env.specs.Instances.{Outcome, outcome, nothing, then, Only, No, One, Several, only_of}
use Rattle.class_env.specs.Supers.{supers_of}
use Rattle.class_env.specs.Reduce.{reduce_at, reduced, given, on_variable, at_place, at_arguments, by_instance, pair, constraint}
use Rattle.class_env.specs.Laws.{AgreesAt}
use Rattle.class_env.specs.Entails.{Known, Entails, by_given, by_instance as by_one, Follows}
use Rattle.class_env.specs.EntailLaws.{AreOnVariables, SameAbove}
use Rattle.class_env.proofs.Outcomes.{alone, at_head}
use Rattle.class_env.proofs.Order.{only_one, split, here, there, no_fault, both_none, then_plain}
use Rattle.class_env.proofs.Reading.{one_follows}
use Rattle.class_env.proofs.Types.{term_var}
use Rattle.class_env.proofs.Closed.{known_over, known_back}

place_is_variable : (t : Term) (n : ℕ) → place t ≡ Some n → t ≡ Var n
place_is_variable (Var k) n e = let same : k ≡ n = cc in ap Var same
place_is_variable (Con a) n e = absurd (let h : ⊥ = cc in h)
place_is_variable (App f x) n e = absurd (let h : ⊥ = cc in h)

variable_alone : (t : Term) (n : ℕ) → head t ≡ Variable n → arguments t ≡ [] → t ≡ Var n
variable_alone (Var k) n e f = let same : k ≡ n = cc in ap Var same
variable_alone (Con a) n e f = absurd (let h : ⊥ = cc in h)
variable_alone (App g x) n e f = absurd (let lt : (0 < length (arguments g ++ x ∷ [])) = length_more (arguments g) x in let z : length (arguments g ++ x ∷ []) ≡ 0 = ap length f in omega arith) where
  length_more : (ts : List Term) (a : Term) → 0 < length (ts ++ a ∷ [])
  length_more [] a = omega arith
  length_more (t ∷ ts) a = omega arith

map_at : (f : Term → Name → Outcome) (ts : List Term) (n : ℕ) (c : Name) → n < length ts → get_or (map f ts) n (λ d. nothing) c ≡ f (get_or ts n (Var 0)) c
map_at f [] n c lt = absurd (omega arith)
map_at f (t ∷ ts) zero c lt = refl
map_at f (t ∷ ts) (suc n) c lt = map_at f ts n c (omega arith)

map_past : (fs : List (Name → Outcome)) (n : ℕ) (c : Name) → length fs ≤ n → get_or fs n (λ d. nothing) c ≡ nothing
map_past [] n c le = refl
map_past (f ∷ fs) zero c le = absurd (omega arith)
map_past (f ∷ fs) (suc n) c le = map_past fs n c (omega arith)

lt_or_le : (m n : ℕ) → (m < n) ⊎ (n ≤ m)
lt_or_le m n = grind arith

module _ (s : Name → List Name) (m : Name → Name → List Inst) (ws : List Constraint) where
  abbrev RestKnown : List Constraint → Type 0
  RestKnown ks = (k : Constraint) → Contains ks k → Known s ws k.class (term_of k.ty)

  -- a result, all of which is given
  abbrev Good : Outcome → Type 0
  Good o = (o.fault ≡ None) × RestKnown o.rest

  good_nothing : Good nothing
  good_nothing = (refl, (λ k q. absurd (let lt : q.0 < 0 = q.1 in omega arith)))

  good_then : (a b : Outcome) → Good a → Good b → Good (then a b)
  good_then a b p q =
      let e : then a b ≡ outcome (a.rest ++ b.rest) (a.met ++ b.met) b.fault = then_plain a b p.0 in (
        ap (λ (o : Outcome). o.fault) e ∙ q.0,
        (λ k h. elim (Contains-append_cases a.rest b.rest k (subst (λ (l : List Constraint). Contains l k) (ap (λ (o : Outcome). o.rest) e) h)) [ inl x ↦ p.1 k x | inr y ↦ q.1 k y ]),
      )

  then_good : (a b : Outcome) → Good (then a b) → Good a × Good b
  then_good a b p =
      let two = both_none a b p.0 in
      let e : then a b ≡ outcome (a.rest ++ b.rest) (a.met ++ b.met) b.fault = then_plain a b two.0 in (
        (two.0, (λ k h. p.1 k (subst (λ (l : List Constraint). Contains l k) (sym (ap (λ (o : Outcome). o.rest) e)) (Contains-append_left a.rest b.rest k h)))),
        (two.1, (λ k h. p.1 k (subst (λ (l : List Constraint). Contains l k) (sym (ap (λ (o : Outcome). o.rest) e)) (Contains-append_right a.rest b.rest k h)))),
      )

  good_place : (k : Constraint) (t : Term) → ((n : ℕ) → place (term_of k.ty) ≡ Some n → n < length (arguments t) → Good (reduce_at m (get_or (arguments t) n (Var 0)) [] k.class)) → Good (at_place (place (term_of k.ty)) k.class (given m t))
  good_place k t h = at (place (term_of k.ty)) refl where
    len : length (given m t) ≡ length (arguments t)
    len = length-map (arguments t) (λ a. reduce_at m a [])

    at : (o : Option ℕ) → place (term_of k.ty) ≡ o → Good (at_place o k.class (given m t))
    at None e = good_nothing
    at (Some n) e = elim (lt_or_le n (length (arguments t))) [
      | inl lt ↦ subst Good (sym (map_at (λ a. reduce_at m a []) (arguments t) n k.class lt)) (h n e lt)
      | inr le ↦ subst Good (sym (map_past (given m t) n k.class (let l = len in omega arith))) good_nothing
    ]

  good_arguments : (ks : List Constraint) (t : Term) → ((k : Constraint) → Contains ks k → (n : ℕ) → place (term_of k.ty) ≡ Some n → n < length (arguments t) → Good (reduce_at m (get_or (arguments t) n (Var 0)) [] k.class)) → Good (at_arguments ks (given m t))
  good_arguments [] t h = good_nothing
  good_arguments (k ∷ ks) t h = good_then (at_place (place (term_of k.ty)) k.class (given m t)) (at_arguments ks (given m t)) (good_place k t (h k (here k ks))) (good_arguments ks t (λ j q. h j (there k ks j q)))

  good_known : AreOnVariables ws → (c : Name) (t : Term) → Known s ws c t → Good (reduce_at m t [] c)
  good_known on c t k =
      let v = on k.0 k.1 in
      let e : t ≡ Var v.0 = place_is_variable t v.0 (ap place (sym k.3) ∙ v.1) in
      let known : Known s ws c (Var v.0) = subst (Known s ws c) e k in
      subst (λ (x : Term). Good (reduce_at m x [] c)) (sym e)
      (refl, (λ j q. subst (λ (x : Constraint). Known s ws x.class (term_of x.ty)) (only_one (constraint c v.0) j q) (subst (Known s ws c) (sym (term_var v.0)) known)))

  good_pair : (i : Inst) (p : Pair) (fs : List (Name → Outcome)) → Good (at_arguments i.context fs) → Good (by_instance (One i) p fs)
  good_pair i p fs q = good_then (outcome [] (p ∷ []) None) (at_arguments i.context fs) (refl, (λ k h. absurd (let lt : h.0 < 0 = h.1 in omega arith))) q

  pub reduces : AreOnVariables ws → {c : Name} {t : Term} → Entails (Known s ws) m c t → Good (reduce_at m t [] c)
  reduces on {c} {t} (by_given k) = good_known on c t k
  reduces on {c} {t} (by_one h i e f sub) =
      let all : Good (at_arguments i.context (given m t)) = good_arguments i.context t (λ k q n p lt. reduces on (sub k q n p lt)) in
      let len : length (given m t) ≡ length (arguments t) = length-map (arguments t) (λ a. reduce_at m a []) in
      let r : reduce_at m t [] c ≡ by_instance (One i) (pair c h) (given m t) =
      alone m t c ∙ ap (λ (x : Head). at_head m x (given m t) c) e ∙ ap (λ (n : ℕ). by_instance (only_of (m c h) n) (pair c h) (given m t)) len ∙ ap (λ (o : Only). by_instance o (pair c h) (given m t)) f in
      subst Good (sym r) (good_pair i (pair c h) (given m t) all)

  -- ---- and back

  abbrev SoundAll : List (Name → Outcome) → List Term → Type 0
  SoundAll [] [] = Unit {0}
  SoundAll [] (a ∷ ts) = ⊥
  SoundAll (f ∷ fs) [] = ⊥
  SoundAll (f ∷ fs) (a ∷ ts) = ((c : Name) → Good (f c) → Entails (Known s ws) m c a) × SoundAll fs ts

  lengths : (fs : List (Name → Outcome)) (ts : List Term) → SoundAll fs ts → length fs ≡ length ts
  lengths [] [] r = refl
  lengths [] (a ∷ ts) r = absurd r
  lengths (f ∷ fs) [] r = absurd r
  lengths (f ∷ fs) (a ∷ ts) r = ap suc (lengths fs ts r.1)

  sound_at : (fs : List (Name → Outcome)) (ts : List Term) → SoundAll fs ts → (n : ℕ) (c : Name) → n < length ts → Good (get_or fs n (λ d. nothing) c) → Entails (Known s ws) m c (get_or ts n (Var 0))
  sound_at [] [] r n c lt h = absurd (omega arith)
  sound_at [] (a ∷ ts) r n c lt h = absurd r
  sound_at (f ∷ fs) [] r n c lt h = absurd r
  sound_at (f ∷ fs) (a ∷ ts) r zero c lt h = r.0 c h
  sound_at (f ∷ fs) (a ∷ ts) r (suc n) c lt h = sound_at fs ts r.1 n c (omega arith) h

  each_good : (ks : List Constraint) (fs : List (Name → Outcome)) → Good (at_arguments ks fs) → (k : Constraint) → Contains ks k → Good (at_place (place (term_of k.ty)) k.class fs)
  each_good [] fs h k q = absurd (let lt : q.0 < 0 = q.1 in omega arith)
  each_good (j ∷ ks) fs h k q =
      let two = then_good (at_place (place (term_of j.ty)) j.class fs) (at_arguments ks fs) h in
      elim (split j ks k q) [ inl e ↦ subst (λ (x : Constraint). Good (at_place (place (term_of x.ty)) x.class fs)) e two.0 | inr p ↦ each_good ks fs two.1 k p ]

  from_only : (o : Only) (c h : Name) (t : Term) (fs : List (Name → Outcome)) → head t ≡ Constructor h → only_of (m c h) (length (arguments t)) ≡ o → SoundAll fs (arguments t) → Good (by_instance o (pair c h) fs) → Entails (Known s ws) m c t
  from_only No c h t fs e f r q = no_fault _ q.0
  from_only Several c h t fs e f r q = no_fault _ q.0
  from_only (One i) c h t fs e f r q =
      let all : Good (at_arguments i.context fs) = (then_good (outcome [] (pair c h ∷ []) None) (at_arguments i.context fs) q).1 in
      by_one h i e f (λ k p n v lt. sound_at fs (arguments t) r n k.class lt (subst (λ (x : Option ℕ). Good (at_place x k.class fs)) v (each_good i.context fs all k p)))

  sound_variable : (n : ℕ) (whole : Term) (fs : List (Name → Outcome)) (ts : List Term) → head whole ≡ Variable n → arguments whole ≡ ts → SoundAll fs ts → (c : Name) → Good (on_variable n fs c) → Entails (Known s ws) m c whole
  sound_variable n whole [] [] e f r c h =
      let v : whole ≡ Var n = variable_alone whole n e f in
      let k : Known s ws c (term_of (types.Var n)) = h.1 (constraint c n) (here (constraint c n) []) in
      subst (λ (x : Term). Entails (Known s ws) m c x) (sym v) (by_given (subst (Known s ws c) (term_var n) k))
  sound_variable n whole [] (a ∷ ts) e f r c h = absurd r
  sound_variable n whole (g ∷ fs) ts e f r c h = no_fault _ h.0

  sound : (t whole : Term) (fs : List (Name → Outcome)) (ts : List Term) → head whole ≡ head t → arguments whole ≡ arguments t ++ ts → SoundAll fs ts → (c : Name) → Good (reduce_at m t fs c) → Entails (Known s ws) m c whole
  sound (Var n) whole fs ts e f r c h = sound_variable n whole fs ts e f r c h
  sound (Con a) whole fs ts e f r c h =
      from_only (only_of (m c a) (length fs)) c a whole fs e (ap (λ (n : ℕ). only_of (m c a) n) (ap length f ∙ sym (lengths fs ts r))) (subst (SoundAll fs) (sym f) r) h
  sound (App g a) whole fs ts e f r c h =
      sound g whole (reduce_at m a [] ∷ fs) (a ∷ ts) e (f ∙ append_assoc (arguments g) (a ∷ []) ts)
      ((λ d q. sound a a [] [] refl (sym (append-nil (arguments a))) tt d q), r) c h

  pub from_rest : (w : Constraint) → (reduced m w).fault ≡ None → RestKnown (reduced m w).rest → Entails (Known s ws) m w.class (term_of w.ty)
  from_rest w e k = sound (term_of w.ty) (term_of w.ty) [] [] refl (sym (append-nil (arguments (term_of w.ty)))) tt w.class (e, k)

  pub decides : (w : Constraint) → AreOnVariables ws → Entails (Known s ws) m w.class (term_of w.ty) ↔ (((reduced m w).fault ≡ None) × RestKnown (reduced m w).rest)
  decides w on = ((λ q. reduces on q), (λ h. from_rest w h.0 h.1))

pub reduced_follows : (s : Name → List Name) (m : Name → Name → List Inst) (w : Constraint) → (reduced m w).fault ≡ None → Entails (Known s (reduced m w).rest) m w.class (term_of w.ty)
reduced_follows s m w e = from_rest s m (reduced m w).rest w e (λ k q. (k, q, inl refl, refl))

-- ---- what is read

pub met_is_enough : (fs gs : Faces) (ws : List Constraint) (w : Constraint) → AreOnVariables ws → SameAbove fs gs ws → AgreesAt (insts_of fs) (insts_of gs) (reduced (insts_of fs) w).met → Follows fs ws w ↔ Follows gs ws w
met_is_enough fs gs ws w on above met =
    let same : reduced (insts_of fs) w ≡ reduced (insts_of gs) w = one_follows (insts_of fs) (insts_of gs) w met in
    let first = decides (supers_of fs) (insts_of fs) ws w on in
    let second = decides (supers_of gs) (insts_of gs) ws w on in (
      (λ q. let g = first.0 q in second.1 (ap (λ (o : Outcome). o.fault) (sym same) ∙ g.0, (λ k h. known_over fs gs ws above k.class (term_of k.ty) (g.1 k (subst (λ (o : Outcome). Contains o.rest k) (sym same) h))))),
      (λ q. let g = second.0 q in first.1 (ap (λ (o : Outcome). o.fault) same ∙ g.0, (λ k h. known_back fs gs ws above k.class (term_of k.ty) (g.1 k (subst (λ (o : Outcome). Contains o.rest k) same h))))),
    )
