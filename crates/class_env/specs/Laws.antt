-- What reducing reads, and that order and repetition of constraints change nothing but order and repetition.
use Rattle.std.specs.Prelude.{◌≡◌, ◌↔◌, List, ◌∷◌, None}
use Rattle.std.specs.List.{Contains}
use Rattle.mk_base.specs.declared.name.Name.{Name}
use Rattle.face_model.specs.declared.inst.Inst.{Inst}
use Rattle.face_model.specs.declared.scheme.Constraint.{Constraint}
use Rattle.class_env.specs.declared.outcome.Pair.{Pair}
use Rattle.class_env.specs.Reduce.{reduced_all, stops}

-- two views of instances agree at the pairs
abbrev pub AgreesAt : (Name → Name → List Inst) → (Name → Name → List Inst) → List Pair → Type 0
AgreesAt m n ps = (p : Pair) → Contains ps p → m p.class p.head ≡ n p.class p.head

-- nothing else is read, also where there is a fault
abbrev pub PairsMetAreEnough : Type 0
PairsMetAreEnough = (m n : Name → Name → List Inst) (ws : List Constraint) → AgreesAt m n (reduced_all m ws).met
    → (reduced_all m ws ≡ reduced_all n ws) × (stops m ws 0 ≡ stops n ws 0)

abbrev pub SameMembers : {X : Type 0} → List X → List X → Type 0
SameMembers {X} xs ys = (x : X) → Contains xs x ↔ Contains ys x

-- which constraints there are decides what is left and met
abbrev pub OrderChangesNothing : Type 0
OrderChangesNothing = (m : Name → Name → List Inst) (ws vs : List Constraint) → SameMembers ws vs → (reduced_all m ws).fault ≡ None
    → ((reduced_all m vs).fault ≡ None) × SameMembers (reduced_all m ws).rest (reduced_all m vs).rest × SameMembers (reduced_all m ws).met (reduced_all m vs).met

abbrev pub RepeatedAddsNothing : Type 0
RepeatedAddsNothing = (m : Name → Name → List Inst) (w : Constraint) (ws : List Constraint) → Contains ws w → (reduced_all m ws).fault ≡ None
    → ((reduced_all m (w ∷ ws)).fault ≡ None) × SameMembers (reduced_all m ws).rest (reduced_all m (w ∷ ws)).rest × SameMembers (reduced_all m ws).met (reduced_all m (w ∷ ws)).met
