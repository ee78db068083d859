-- Defaults of variables: one answer, and what is read.
use Rattle.std.proofs.Common.{◌≡◌, ◌⊎◌, ◌↔◌, inl, inr, ℕ, Bool, List, [], ◌∷◌, ◌++◌, Option, Some, None, sym, ◌∙◌, ap, subst, refl}
use Rattle.std.specs.Prelude.{IsTrue, IfOk, Result, Ok, Err, codes}
use Rattle.std.specs.List.{Contains}
use Rattle.std.proofs.lemmas.List.Elements.{Contains-append_cases}
use Rattle.mk_base.specs.declared.name.Name.{Name}
use Rattle.mk_base.specs.declared.ty.Ty.{Ty}
use Rattle.mk_base.specs.declared.ty.Ty.TheVariants as types
use Rattle.face_model.specs.declared.inst.Inst.{Inst}
use Rattle.face_model.specs.declared.scheme.Constraint.{Constraint}
use Rattle.face_model.specs.Environments.{Faces, insts_of}
use Rattle.class_env.specs.Terms.{Term}
use Rattle.class_env.specs.Instances.{Outcome, only_of}
use Rattle.class_env.specs.Supers.{supers_of}
use Rattle.class_env.specs.Laws.{AgreesAt}
use Rattle.class_env.specs.Reduce.{reduce_at, reduced, by_instance, pair}
use Rattle.class_env.specs.Defaults.{prim_type, numeric, integer, double, HasNumeric, IsDefaultable, at_type, Fits, IsDefault}
use Rattle.class_env.specs.DefaultLaws.{SameAboveOn, SameMetAt}
use Rattle.class_env.proofs.Order.{only_one}
use Rattle.class_env.proofs.Types.{term_con}
use Rattle.class_env.proofs.Reading.{pair_in}
use Rattle.class_env.proofs.Above.{gives_over, gives_back}

-- ---- one answer

module _ (supers : Name → List Name) (members : Name → Name → List Inst) (v : ℕ) (ws : List Constraint) where
  abbrev First : Ty → Type 0
  First t = ((t ≡ integer) × Fits members v ws integer) ⊎ ((t ≡ double) × (Fits members v ws integer → ⊥) × Fits members v ws double)

  two_firsts : (a b : Ty) → First a → First b → a ≡ b
  two_firsts a b (inl p) (inl q) = p.0 ∙ sym q.0
  two_firsts a b (inl p) (inr q) = absurd (q.1 p.1)
  two_firsts a b (inr p) (inl q) = absurd (p.1 q.1)
  two_firsts a b (inr p) (inr q) = p.0 ∙ sym q.0

  not_both : (a : Ty) → IsDefaultable supers v ws → First a → ((IsDefaultable supers v ws → ⊥) ⊎ ((Fits members v ws integer → ⊥) × (Fits members v ws double → ⊥))) → ⊥
  not_both a d f (inl none) = none d
  not_both a d (inl p) (inr none) = none.0 p.1
  not_both a d (inr p) (inr none) = none.1 p.2

  pub one_default : (a b : Option Ty) → IsDefault supers members v ws a → IsDefault supers members v ws b → a ≡ b
  one_default None None p q = refl
  one_default (Some a) (Some b) p q = ap Some (two_firsts a b p.1 q.1)
  one_default (Some a) None p q = absurd (not_both a p.0 p.1 q)
  one_default None (Some b) p q = absurd (not_both b q.0 q.1 p)

-- ---- what is read

at_con : (m : Name → Name → List Inst) (c h : Name) → reduced m (at_type c (types.Con h)) ≡ by_instance (only_of (m c h) 0) (pair c h) []
at_con m c h = ap (λ (x : Term). reduce_at m x [] c) (term_con h)

met_there : (m : Name → Name → List Inst) (c h : Name) → Contains (reduced m (at_type c (types.Con h))).met (pair c h)
met_there m c h = subst (λ (o : Outcome). Contains o.met (pair c h)) (sym (at_con m c h)) (pair_in (only_of (m c h) 0) (pair c h) [])

same_result : (m n : Name → Name → List Inst) (c h : Name) → AgreesAt m n (reduced m (at_type c (types.Con h))).met → reduced m (at_type c (types.Con h)) ≡ reduced n (at_type c (types.Con h))
same_result m n c h agree =
    at_con m c h ∙ ap (λ (is : List Inst). by_instance (only_of is 0) (pair c h) []) (agree (pair c h) (met_there m c h)) ∙ sym (at_con n c h)

module _ (fs gs : Faces) (v : ℕ) (ws : List Constraint) (above : SameAboveOn fs gs v ws) where
  numeric_alike : HasNumeric (supers_of fs) v ws ↔ HasNumeric (supers_of gs) v ws
  numeric_alike = (
    (λ h. (h.0, h.1, h.2, gives_over (supers_of fs) (supers_of gs) h.0.class numeric (above h.0 h.1 h.2) h.3)),
    (λ h. (h.0, h.1, h.2, gives_back (supers_of fs) (supers_of gs) h.0.class numeric (above h.0 h.1 h.2) h.3)),
  )

  defaultable_alike : IsDefaultable (supers_of fs) v ws ↔ IsDefaultable (supers_of gs) v ws
  defaultable_alike = ((λ d. (d.0, numeric_alike.0 d.1)), (λ d. (d.0, numeric_alike.1 d.1)))

  fits_alike : (h : Name) → SameMetAt fs gs v ws (types.Con h) → Fits (insts_of fs) v ws (types.Con h) ↔ Fits (insts_of gs) v ws (types.Con h)
  fits_alike h same = (
    (λ f w q on. ap (λ (o : Outcome). o.fault) (sym (same_result (insts_of fs) (insts_of gs) w.class h (same w q on))) ∙ f w q on),
    (λ f w q on. ap (λ (o : Outcome). o.fault) (same_result (insts_of fs) (insts_of gs) w.class h (same w q on)) ∙ f w q on),
  )

  module _ (first : SameMetAt fs gs v ws integer) (second : (Fits (insts_of fs) v ws integer → ⊥) → SameMetAt fs gs v ws double) where
    abbrev FirstFits : Faces → Type 0
    FirstFits es = Fits (insts_of es) v ws integer

    abbrev SecondFits : Faces → Type 0
    SecondFits es = Fits (insts_of es) v ws double

    first_alike : FirstFits fs ↔ FirstFits gs
    first_alike = fits_alike (prim_type (codes "Integer")) first

    none_over : (FirstFits fs → ⊥) → FirstFits gs → ⊥
    none_over none f = none (first_alike.1 f)

    none_back : (FirstFits gs → ⊥) → FirstFits fs → ⊥
    none_back none f = none (first_alike.0 f)

    second_alike : (FirstFits fs → ⊥) → SecondFits fs ↔ SecondFits gs
    second_alike none = fits_alike (prim_type (codes "Double")) (second none)

    pub default_alike : (o : Option Ty) → IsDefault (supers_of fs) (insts_of fs) v ws o ↔ IsDefault (supers_of gs) (insts_of gs) v ws o
    default_alike (Some t) = (
      (λ d. (
        defaultable_alike.0 d.0,
        elim d.1 [
          | inl p ↦ inl (p.0, first_alike.0 p.1)
          | inr p ↦ inr (p.0, none_over p.1, (second_alike p.1).0 p.2)
        ],
      )),
      (λ d. (
        defaultable_alike.1 d.0,
        elim d.1 [
          | inl p ↦ inl (p.0, first_alike.1 p.1)
          | inr p ↦ inr (p.0, none_back p.1, (second_alike (none_back p.1)).1 p.2)
        ],
      )),
    )
    default_alike None = (
      (λ d. elim d [
        | inl p ↦ inl (λ x. p (defaultable_alike.1 x))
        | inr p ↦ inr (none_over p.0, (λ f. p.1 ((second_alike p.0).1 f)))
      ]),
      (λ d. elim d [
        | inl p ↦ inl (λ x. p (defaultable_alike.0 x))
        | inr p ↦ inr (none_back p.0, (λ f. p.1 ((second_alike (none_back p.0)).0 f)))
      ]),
    )

-- ---- the answers

module _ (supers : Name → List Name) (members : Name → Name → List Inst) (v : ℕ) (ws : List Constraint) where
  pub first_fits : (a : Ty) → IsDefaultable supers v ws → a ≡ integer → Fits members v ws a → IsDefault supers members v ws (Some a)
  first_fits a d e f = (d, inl (e, subst (Fits members v ws) e f))

  pub second_fits : (a b : Ty) → IsDefaultable supers v ws → a ≡ integer → (Fits members v ws a → ⊥) → b ≡ double → Fits members v ws b → IsDefault supers members v ws (Some b)
  second_fits a b d e none q f = (d, inr (q, (λ x. none (subst (Fits members v ws) (sym e) x)), subst (Fits members v ws) q f))

  pub none_fits : (a b : Ty) → a ≡ integer → (Fits members v ws a → ⊥) → b ≡ double → (Fits members v ws b → ⊥) → IsDefault supers members v ws None
  none_fits a b e none q neither = inr ((λ x. none (subst (Fits members v ws) (sym e) x)), (λ x. neither (subst (Fits members v ws) (sym q) x)))

pub ok_both : {E : Type 0} (r : Result Bool E) (P Q : Type 0) → P → IfOk r (λ b. IsTrue b ↔ Q) → IfOk r (λ b. IsTrue b ↔ (P × Q))
ok_both (Ok b) P Q p e = ((λ h. (p, e.0 h)), (λ q. e.1 q.1))
ok_both (Err x) P Q p e = e

-- ---- steps of loops

-- a fact of all elements of a front and of the next one
pub all_next : {X : Type 0} (P : X → Type 0) (front : List X) (x : X) → ((y : X) → Contains front y → P y) → P x → (y : X) → Contains (front ++ x ∷ []) y → P y
all_next {X} P front x h q y k = elim (Contains-append_cases front (x ∷ []) y k) [ inl p ↦ h y p | inr p ↦ subst P (only_one x y p) q ]
