-- What follows from given constraints, by superclasses and instances.
use Rattle.std.specs.Prelude.{ℕ, ◌≡◌, ◌<◌, List, get_or, length, Some}
use Rattle.std.specs.List.{Contains}
use Rattle.mk_base.specs.declared.name.Name.{Name}
use Rattle.face_model.specs.Environments.{Faces, insts_of}
use Rattle.face_model.specs.declared.inst.Inst.{Inst}
use Rattle.face_model.specs.declared.scheme.Constraint.{Constraint}
use Rattle.class_env.specs.Terms.{Term, Var, term_of}
use Rattle.class_env.specs.Spine.{Constructor, head, arguments, place}
use Rattle.class_env.specs.Instances.{Only, No, One, Several, only_of}
use Rattle.class_env.specs.Supers.{supers_of, Gives}
use Rattle.class_env.specs.Reduce.{pair}
use Rattle.class_env.specs.declared.given.Held.{Held}
use Rattle.class_env.specs.declared.outcome.Pair.{Pair}

-- a class at just this type is given, or one that reaches it over superclasses
abbrev pub Known : (Name → List Name) → List Constraint → Name → Term → Type 0
Known supers given c t = (w : Constraint) × Contains given w × Gives supers w.class c × (term_of w.ty ≡ t)

-- the same by what each given constraint gives
abbrev pub HeldAt : Held → Name → Term → Type 0
HeldAt h c t = Contains h.above.keys c × (term_of h.ty.now ≡ t)

abbrev pub KnownIn : List Held → Name → Term → Type 0
KnownIn held c t = (h : Held) × Contains held h × HeldAt h c t

-- what is known, and what the one instance of a pair gives whose context follows at the arguments
pub data Entails (known : Name → Term → Type 0) (members : Name → Name → List Inst) : Name → Term → Type 0 where
  by_given : {c : Name} {t : Term} → known c t → Entails known members c t
  by_instance : {c : Name} {t : Term} (h : Name) (i : Inst) → head t ≡ Constructor h → only_of (members c h) (length (arguments t)) ≡ One i
      → ((k : Constraint) → Contains i.context k → (n : ℕ) → place (term_of k.ty) ≡ Some n → n < length (arguments t) → Entails known members k.class (get_or (arguments t) n (Var 0))) → Entails known members c t

module _ (known : Name → Term → Type 0) (members : Name → Name → List Inst) where
  -- a constraint of a context at its argument
  abbrev pub HoldsAt : Constraint → Term → Type 0
  HoldsAt k t = (n : ℕ) → place (term_of k.ty) ≡ Some n → n < length (arguments t) → Entails known members k.class (get_or (arguments t) n (Var 0))

  abbrev pub Holds : List Constraint → Term → Type 0
  Holds ks t = (k : Constraint) → Contains ks k → HoldsAt k t

  abbrev pub ByOnly : Only → Term → Type 0
  ByOnly No t = ⊥
  ByOnly (One i) t = Holds i.context t
  ByOnly Several t = ⊥

-- a constraint follows from given ones in an environment
abbrev pub Follows : Faces → List Constraint → Constraint → Type 0
Follows fs given w = Entails (Known (supers_of fs) given) (insts_of fs) w.class (term_of w.ty)

-- the pairs whose instances a class at a type needs, at any depth
pub data Needs (members : Name → Name → List Inst) : Name → Term → Pair → Type 0 where
  at_head : {c : Name} {t : Term} {p : Pair} (h : Name) → head t ≡ Constructor h → pair c h ≡ p → Needs members c t p
  inside : {c : Name} {t : Term} {p : Pair} (h : Name) (i : Inst) (k : Constraint) (n : ℕ) → head t ≡ Constructor h → only_of (members c h) (length (arguments t)) ≡ One i
      → Contains i.context k → place (term_of k.ty) ≡ Some n → n < length (arguments t) → Needs members k.class (get_or (arguments t) n (Var 0)) p → Needs members c t p
