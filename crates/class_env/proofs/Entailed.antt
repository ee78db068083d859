-- What follows, step by step.
use Rattle.std.proofs.Common.{◌≡◌, ◌⊎◌, ◌↔◌, inl, inr, ℕ, ◌<◌, ◌≤◌, Bool, true, false, List, [], ◌∷◌, ◌++◌, length, get_or, take, ◌+◌, Some, None, sym, ◌∙◌, ap, subst, refl, arith}
use Rattle.std.specs.Prelude.{IsTrue}
use Rattle.std.specs.List.{Contains}
use Rattle.std.proofs.lemmas.List.Elements.{Contains-append_left, Contains-append_right, Contains-append_cases}
use Rattle.mk_base.specs.declared.name.Name.{Name}
use Rattle.face_model.specs.declared.inst.Inst.{Inst}
use Rattle.face_model.specs.declared.scheme.Constraint.{Constraint}
use Rattle.class_env.specs.declared.given.Held.{Held}
use Rattle.class_env.specs.Terms.{Term, Var, term_of}
use Rattle.class_env.specs.Spine.{Variable, Constructor, head, arguments, place}
use Rattle.class_env.specs.Instances.{Only, No, One, Several, only_of}
use Rattle.class_env.specs.Supers.{Gives}
use Rattle.class_env.specs.Entails.{Known, KnownIn, HeldAt, Entails, by_given, by_instance, HoldsAt, Holds, ByOnly}
use Rattle.class_env.proofs.Order.{only_one, here}
use Rattle.class_env.proofs.Sweeping.{take_next}

pub not_true : {A : Type 0} → false ≡ true → A
not_true e = absurd (let h : ⊥ = cc in h)

constructor_is : (a b : Name) → Constructor a ≡ Constructor b → a ≡ b
constructor_is a b e = cc

pub no_variable : {A : Type 0} (n : ℕ) (a : Name) → Variable n ≡ Constructor a → A
no_variable n a e = absurd (let h : ⊥ = cc in h)

pub place_is : (m n : ℕ) → Some m ≡ Some n → m ≡ n
place_is m n e = cc

pub no_place : {A : Type 0} (n : ℕ) → None ≡ Some n → A
no_place n e = absurd (let h : ⊥ = cc in h)

module _ (known : Name → Term → Type 0) (members : Name → Name → List Inst) where
  abbrev pub ByHead : Name → Term → Type 0
  ByHead c t = (h : Name) × (head t ≡ Constructor h) × ByOnly known members (only_of (members c h) (length (arguments t))) t

  pub invert : {c : Name} {t : Term} → Entails known members c t → known c t ⊎ ByHead c t
  invert (by_given k) = inl k
  invert {c} {t} (by_instance h i e f sub) = inr (h, e, subst (λ (o : Only). ByOnly known members o t) (sym f) sub)

  from_only : (c h : Name) (t : Term) (o : Only) → head t ≡ Constructor h → only_of (members c h) (length (arguments t)) ≡ o → ByOnly known members o t → Entails known members c t
  from_only c h t No e f q = absurd q
  from_only c h t (One i) e f q = by_instance h i e f q
  from_only c h t Several e f q = absurd q

  pub exact_variable : (c : Name) (t : Term) (n : ℕ) → (known c t → ⊥) → Variable n ≡ head t → IsTrue false ↔ Entails known members c t
  exact_variable c t n none e = ((λ f. not_true f), (λ q. elim (invert q) [ inl k ↦ absurd (none k) | inr p ↦ no_variable n p.0 (e ∙ p.1) ]))

  pub exact_constructor : (c h : Name) (t : Term) (is : List Inst) (b : Bool) → (known c t → ⊥) → Constructor h ≡ head t → is ≡ members c h
      → (IsTrue b ↔ ByOnly known members (only_of is (length (arguments t))) t) → IsTrue b ↔ Entails known members c t
  exact_constructor c h t is b none e f q =
      let by : IsTrue b ↔ ByOnly known members (only_of (members c h) (length (arguments t))) t = subst (λ (l : List Inst). IsTrue b ↔ ByOnly known members (only_of l (length (arguments t))) t) f q in (
        (λ h1. from_only c h t (only_of (members c h) (length (arguments t))) (sym e) refl (by.0 h1)),
        (λ d. elim (invert d) [
          | inl k ↦ absurd (none k)
          | inr p ↦ by.1 (subst (λ (g : Name). ByOnly known members (only_of (members c g) (length (arguments t))) t) (constructor_is p.0 h (sym p.1 ∙ sym e)) p.2)
        ]),
      )

  pub holds_next : (ks : List Constraint) (k : Constraint) (t : Term) → Holds known members ks t → HoldsAt known members k t → Holds known members (ks ++ k ∷ []) t
  holds_next ks k t h q j m = elim (Contains-append_cases ks (k ∷ []) j m) [ inl p ↦ h j p | inr p ↦ subst (λ (x : Constraint). HoldsAt known members x t) (only_one k j p) q ]

  pub no_place_holds : (k : Constraint) (t : Term) → None ≡ place (term_of k.ty) → HoldsAt known members k t
  no_place_holds k t e n p lt = no_place n (e ∙ p)

  pub past_holds : (k : Constraint) (t : Term) (m : ℕ) → Some m ≡ place (term_of k.ty) → length (arguments t) ≤ m → HoldsAt known members k t
  past_holds k t m e le n p lt = let same : m ≡ n = place_is m n (e ∙ p) in absurd (omega arith)

  pub argument_holds : (k : Constraint) (t a : Term) (m : ℕ) (b : Bool) → Some m ≡ place (term_of k.ty) → m < length (arguments t) → get_or (arguments t) m (Var 0) ≡ a → (IsTrue b ↔ Entails known members k.class a) → IsTrue b ↔ HoldsAt known members k t
  argument_holds k t a m b e lt g q = (
    (λ h n p l. subst (λ (j : ℕ). Entails known members k.class (get_or (arguments t) j (Var 0))) (place_is m n (e ∙ p)) (subst (Entails known members k.class) (sym g) (q.0 h))),
    (λ h. q.1 (subst (Entails known members k.class) g (h m (sym e) lt))),
  )

pub entails_more : (k l : Name → Term → Type 0) (members : Name → Name → List Inst) → ((c : Name) (t : Term) → k c t → l c t) → {c : Name} {t : Term} → Entails k members c t → Entails l members c t
entails_more k l members more {c} {t} (by_given h) = by_given (more c t h)
entails_more k l members more {c} {t} (by_instance h i e f sub) = by_instance h i e f (λ j q n p lt. entails_more k l members more (sub j q n p lt))

-- ---- what is given

pub known_none : (supers : Name → List Name) (c : Name) (t : Term) → KnownIn [] c t ↔ Known supers [] c t
known_none supers c t = ((λ h. absurd (let lt : h.1.0 < 0 = h.1.1 in omega arith)), (λ h. absurd (let lt : h.1.0 < 0 = h.1.1 in omega arith)))

pub known_next : (supers : Name → List Name) (hs : List Held) (h : Held) (ws : List Constraint) (w : Constraint) → h.ty.now ≡ w.ty → ((c : Name) → Contains h.above.keys c ↔ Gives supers w.class c)
    → ((c : Name) (t : Term) → KnownIn hs c t ↔ Known supers ws c t) → (c : Name) (t : Term) → KnownIn (hs ++ h ∷ []) c t ↔ Known supers (ws ++ w ∷ []) c t
known_next supers hs h ws w e give all c t = (
  (λ k. elim (Contains-append_cases hs (h ∷ []) k.0 k.1) [
    | inl p ↦ let r = (all c t).0 (k.0, p, k.2) in (r.0, Contains-append_left ws (w ∷ []) r.0 r.1, r.2, r.3)
    | inr p ↦
        let at : HeldAt h c t = subst (λ (x : Held). HeldAt x c t) (sym (only_one h k.0 p)) k.2 in
        (w, Contains-append_right ws (w ∷ []) w (here w []), (give c).0 at.0, sym (ap term_of e) ∙ at.1)
  ]),
  (λ k. elim (Contains-append_cases ws (w ∷ []) k.0 k.1) [
    | inl p ↦ let r = (all c t).1 (k.0, p, k.2, k.3) in (r.0, Contains-append_left hs (h ∷ []) r.0 r.1, r.2)
    | inr p ↦
        let same : w ≡ k.0 = only_one w k.0 p in
        (h, Contains-append_right hs (h ∷ []) h (here h []), ((give c).1 (subst (λ (x : Constraint). Gives supers x.class c) (sym same) k.2), ap term_of e ∙ ap (λ (x : Constraint). term_of x.ty) same ∙ k.3))
  ]),
)

pub known_pushed : (supers : Name → List Name) (hs new : List Held) (h : Held) (given : List Constraint) (i : ℕ) (w : Constraint) → new ≡ hs ++ h ∷ [] → i < length given → get_or given i w ≡ w → h.ty.now ≡ w.ty
    → ((c : Name) → Contains h.above.keys c ↔ Gives supers w.class c) → ((c : Name) (t : Term) → KnownIn hs c t ↔ Known supers (take i given) c t) → (c : Name) (t : Term) → KnownIn new c t ↔ Known supers (take (i + 1) given) c t
known_pushed supers hs new h given i w pushed lt item e give all c t =
    subst (λ (l : List Held). KnownIn l c t ↔ Known supers (take (i + 1) given) c t) (sym pushed)
    (subst (λ (l : List Constraint). KnownIn (hs ++ h ∷ []) c t ↔ Known supers l c t) (sym (take_next given i w w lt item)) (known_next supers hs h (take i given) w e give all c t))

pub follows_alike : (k l : Name → Term → Type 0) (members : Name → Name → List Inst) (b : Bool) (d : Name) (u : Term) → ((c : Name) (t : Term) → k c t ↔ l c t) → IsTrue b ↔ Entails k members d u → IsTrue b ↔ Entails l members d u
follows_alike k l members b d u alike e =
    ((λ h. entails_more k l members (λ c t. (alike c t).0) (e.0 h)), (λ q. e.1 (entails_more l k members (λ c t. (alike c t).1) q)))
