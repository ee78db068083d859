-- What entailment is closed under, and what it reads.
use Rattle.std.proofs.Common.{◌≡◌, ◌↔◌, inl, inr, List, length, sym, ◌∙◌, subst, refl}
use Rattle.mk_base.specs.declared.name.Name.{Name}
use Rattle.face_model.specs.Environments.{Faces, insts_of}
use Rattle.face_model.specs.declared.inst.Inst.{Inst}
use Rattle.face_model.specs.declared.scheme.Constraint.{Constraint}
use Rattle.class_env.specs.declared.outcome.Pair.{Pair}
use Rattle.class_env.specs.Terms.{Term, term_of}
use Rattle.class_env.specs.Spine.{Constructor, head, arguments}
use Rattle.class_env.specs.Instances.{One, only_of}
use Rattle.class_env.specs.Supers.{supers_of, Gives}
use Rattle.class_env.specs.Reduce.{pair}
use Rattle.class_env.specs.Entails.{Known, Entails, by_given, by_instance, Holds, Follows, Needs, at_head, inside}
use Rattle.class_env.specs.EntailLaws.{AreGivenBy, IsHeadedByVariable, FollowAtVariables, SameAbove, SameNeeded}
use Rattle.class_env.proofs.Above.{gives_trans, gives_over, gives_back}
use Rattle.class_env.proofs.Entailed.{entails_more, invert, no_variable}

module _ (supers : Name → List Name) where
  pub known_above : (given : List Constraint) (c d : Name) (t : Term) → Known supers given c t → Gives supers c d → Known supers given d t
  known_above given c d t k g = (k.0, k.1, gives_trans supers k.0.class c d k.2 g, k.3)

  known_by : (more less : List Constraint) → AreGivenBy supers more less → (c : Name) (t : Term) → Known supers less c t → Known supers more c t
  known_by more less h c t k =
      let r : Known supers more k.0.class (term_of k.0.ty) = h k.0 k.1 in
      (r.0, r.1, gives_trans supers r.0.class k.0.class c r.2 k.2, r.3 ∙ k.3)

pub supers_follow : (supers : Name → List Name) (members : Name → Name → List Inst) (given : List Constraint) (c d : Name) (t : Term)
    → Known supers given c t → Gives supers c d → Entails (Known supers given) members d t
supers_follow supers members given c d t k g = by_given (known_above supers given c d t k g)

pub instances_follow : (supers : Name → List Name) (members : Name → Name → List Inst) (given : List Constraint) (c h : Name) (i : Inst) (t : Term)
    → head t ≡ Constructor h → only_of (members c h) (length (arguments t)) ≡ One i → Holds (Known supers given) members i.context t → Entails (Known supers given) members c t
instances_follow supers members given c h i t e f sub = by_instance h i e f sub

pub more_follows : (supers : Name → List Name) (members : Name → Name → List Inst) (more less : List Constraint) (c : Name) (t : Term)
    → AreGivenBy supers more less → Entails (Known supers less) members c t → Entails (Known supers more) members c t
more_follows supers members more less c t h d = entails_more (Known supers less) (Known supers more) members (known_by supers more less h) d

-- ---- at types that a variable heads

module _ (supers : Name → List Name) (members : Name → Name → List Inst) (given : List Constraint) where
  pub variable_gives : (c d : Name) (t : Term) → IsHeadedByVariable t → Gives supers c d → Entails (Known supers given) members c t → Entails (Known supers given) members d t
  variable_gives c d t v g q = elim (invert (Known supers given) members q) [
    | inl k ↦ by_given (known_above supers given c d t k g)
    | inr p ↦ no_variable v.0 p.0 (sym v.1 ∙ p.1)
  ]

  pub follow_on : (more : List Constraint) → FollowAtVariables supers members given more → {c : Name} {t : Term} → Entails (Known supers more) members c t → Entails (Known supers given) members c t
  follow_on more each {c} {t} (by_given k) =
      let p = each k.0 k.1 in
      subst (λ (x : Term). Entails (Known supers given) members c x) k.3 (variable_gives k.0.class c (term_of k.0.ty) p.0 k.2 p.1)
  follow_on more each {c} {t} (by_instance h i e f sub) = by_instance h i e f (λ k q n p lt. follow_on more each (sub k q n p lt))

-- ---- what is read

module _ (m n : Name → Name → List Inst) (k l : Name → Term → Type 0) where
  over : ((c : Name) (t : Term) → k c t → l c t) → {c : Name} {t : Term} → Entails k m c t → ((p : Pair) → Needs m c t p → m p.class p.head ≡ n p.class p.head) → Entails l n c t
  over more {c} {t} (by_given h) agree = by_given (more c t h)
  over more {c} {t} (by_instance h i e f sub) agree =
      by_instance h i e (subst (λ (is : List Inst). only_of is (length (arguments t)) ≡ One i) (agree (pair c h) (at_head h e refl)) f)
      (λ j q x p lt. over more (sub j q x p lt) (λ y z. agree y (inside h i j x e f q p lt z)))

  back : ((c : Name) (t : Term) → l c t → k c t) → {c : Name} {t : Term} → Entails l n c t → ((p : Pair) → Needs m c t p → m p.class p.head ≡ n p.class p.head) → Entails k m c t
  back more {c} {t} (by_given h) agree = by_given (more c t h)
  back more {c} {t} (by_instance h i e f sub) agree =
      let g : only_of (m c h) (length (arguments t)) ≡ One i = subst (λ (is : List Inst). only_of is (length (arguments t)) ≡ One i) (sym (agree (pair c h) (at_head h e refl))) f in
      by_instance h i e g (λ j q x p lt. back more (sub j q x p lt) (λ y z. agree y (inside h i j x e g q p lt z)))

pub known_over : (fs gs : Faces) (given : List Constraint) → SameAbove fs gs given → (c : Name) (t : Term) → Known (supers_of fs) given c t → Known (supers_of gs) given c t
known_over fs gs given same c t k = (k.0, k.1, gives_over (supers_of fs) (supers_of gs) k.0.class c (same k.0 k.1) k.2, k.3)

pub known_back : (fs gs : Faces) (given : List Constraint) → SameAbove fs gs given → (c : Name) (t : Term) → Known (supers_of gs) given c t → Known (supers_of fs) given c t
known_back fs gs given same c t k = (k.0, k.1, gives_back (supers_of fs) (supers_of gs) k.0.class c (same k.0 k.1) k.2, k.3)

pub reads_no_more : (fs gs : Faces) (given : List Constraint) (w : Constraint) → SameAbove fs gs given → SameNeeded fs gs w → Follows fs given w ↔ Follows gs given w
reads_no_more fs gs given w same needed = (
  (λ d. over (insts_of fs) (insts_of gs) (Known (supers_of fs) given) (Known (supers_of gs) given) (known_over fs gs given same) d needed),
  (λ d. back (insts_of fs) (insts_of gs) (Known (supers_of fs) given) (Known (supers_of gs) given) (known_back fs gs given same) d needed),
)
