-- What entailment is closed under, and what it reads.
use Rattle.std.specs.Prelude.{ℕ, ◌≡◌, ◌↔◌, List, length, None, Some}
use Rattle.std.specs.List.{Contains}
use Rattle.mk_base.specs.declared.name.Name.{Name}
use Rattle.face_model.specs.Environments.{Faces, insts_of}
use Rattle.face_model.specs.declared.inst.Inst.{Inst}
use Rattle.face_model.specs.declared.scheme.Constraint.{Constraint}
use Rattle.class_env.specs.declared.outcome.Pair.{Pair}
use Rattle.class_env.specs.Terms.{Term, term_of}
use Rattle.class_env.specs.Spine.{Variable, Constructor, head, arguments, place}
use Rattle.class_env.specs.Instances.{One, only_of}
use Rattle.class_env.specs.Supers.{supers_of, Gives}
use Rattle.class_env.specs.Reduce.{reduced}
use Rattle.class_env.specs.Laws.{AgreesAt}
use Rattle.class_env.specs.Entails.{Known, Entails, Holds, Follows, Needs}

-- what is given gives all superclasses of its class
abbrev pub SupersOfGivenFollow : Type 0
SupersOfGivenFollow = (supers : Name → List Name) (members : Name → Name → List Inst) (given : List Constraint) (c d : Name) (t : Term)
    → Known supers given c t → Gives supers c d → Entails (Known supers given) members d t

-- what the context of the one instance of a pair needs follows, so the class at the type does
abbrev pub InstancesFollow : Type 0
InstancesFollow = (supers : Name → List Name) (members : Name → Name → List Inst) (given : List Constraint) (c h : Name) (i : Inst) (t : Term)
    → head t ≡ Constructor h → only_of (members c h) (length (arguments t)) ≡ One i → Holds (Known supers given) members i.context t → Entails (Known supers given) members c t

-- all of one list is given, or reached over superclasses from what is given, in another
abbrev pub AreGivenBy : (Name → List Name) → List Constraint → List Constraint → Type 0
AreGivenBy supers more less = (w : Constraint) → Contains less w → Known supers more w.class (term_of w.ty)

-- more that is given gives more, and a given constraint that others give over superclasses may be left out
abbrev pub MoreFollowsFromMore : Type 0
MoreFollowsFromMore = (supers : Name → List Name) (members : Name → Name → List Inst) (more less : List Constraint) (c : Name) (t : Term)
    → AreGivenBy supers more less → Entails (Known supers less) members c t → Entails (Known supers more) members c t

-- a type that is a variable, or a variable that is applied
abbrev pub IsHeadedByVariable : Term → Type 0
IsHeadedByVariable t = (n : ℕ) × (head t ≡ Variable n)

-- at such a type all that follows gives the superclasses of its class
abbrev pub SupersFollowAtVariables : Type 0
SupersFollowAtVariables = (supers : Name → List Name) (members : Name → Name → List Inst) (given : List Constraint) (c d : Name) (t : Term) → IsHeadedByVariable t → Gives supers c d
    → Entails (Known supers given) members c t → Entails (Known supers given) members d t

-- constraints that follow, each at such a type
abbrev pub FollowAtVariables : (Name → List Name) → (Name → Name → List Inst) → List Constraint → List Constraint → Type 0
FollowAtVariables supers members given more = (w : Constraint) → Contains more w → IsHeadedByVariable (term_of w.ty) × Entails (Known supers given) members w.class (term_of w.ty)

-- what follows from these follows
abbrev pub FollowingIsTransitive : Type 0
FollowingIsTransitive = (supers : Name → List Name) (members : Name → Name → List Inst) (given more : List Constraint) (c : Name) (t : Term) → FollowAtVariables supers members given more
    → Entails (Known supers more) members c t → Entails (Known supers given) members c t

-- a constraint with a result follows from what is left of it
abbrev pub ReducedFollows : Type 0
ReducedFollows = (supers : Name → List Name) (members : Name → Name → List Inst) (w : Constraint)
    → (reduced members w).fault ≡ None → Entails (Known supers (reduced members w).rest) members w.class (term_of w.ty)

-- each constraint is on a variable itself
abbrev pub AreOnVariables : List Constraint → Type 0
AreOnVariables ws = (w : Constraint) → Contains ws w → (n : ℕ) × (place (term_of w.ty) ≡ Some n)

-- from constraints on variables just that follows which has a result, all of which is given, or reached over superclasses
abbrev pub ReducingDecides : Type 0
ReducingDecides = (supers : Name → List Name) (members : Name → Name → List Inst) (given : List Constraint) (w : Constraint) → AreOnVariables given
    → Entails (Known supers given) members w.class (term_of w.ty)
    ↔ (((reduced members w).fault ≡ None) × ((k : Constraint) → Contains (reduced members w).rest k → Known supers given k.class (term_of k.ty)))

-- two environments with the same superclasses of all classes that given constraints give
abbrev pub SameAbove : Faces → Faces → List Constraint → Type 0
SameAbove fs gs given = (w : Constraint) → Contains given w → (c : Name) → Gives (supers_of fs) w.class c → supers_of fs c ≡ supers_of gs c

-- two environments with the same instances of all pairs that a constraint needs
abbrev pub SameNeeded : Faces → Faces → Constraint → Type 0
SameNeeded fs gs w = (p : Pair) → Needs (insts_of fs) w.class (term_of w.ty) p → insts_of fs p.class p.head ≡ insts_of gs p.class p.head

-- nothing else is read
abbrev pub EntailmentReadsNoMore : Type 0
EntailmentReadsNoMore = (fs gs : Faces) (given : List Constraint) (w : Constraint) → SameAbove fs gs given → SameNeeded fs gs w → Follows fs given w ↔ Follows gs given w

-- from constraints on variables, and the pairs met by reducing are those to look at
abbrev pub PairsMetDecide : Type 0
PairsMetDecide = (fs gs : Faces) (given : List Constraint) (w : Constraint) → AreOnVariables given → SameAbove fs gs given → AgreesAt (insts_of fs) (insts_of gs) (reduced (insts_of fs) w).met
    → Follows fs given w ↔ Follows gs given w
