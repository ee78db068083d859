-- What reducing gives, one result behind another, and the one instance that fits.
use Rattle.std.specs.Prelude.{ℕ, List, [], ◌∷◌, ◌++◌, Option, Some, None, nat_eq}
use Rattle.std.specs.List.{filter}
use Rattle.face_model.specs.declared.inst.Inst.{Inst}
use Rattle.face_model.specs.declared.scheme.Constraint.{Constraint}
use Rattle.class_env.specs.declared.outcome.Pair.{Pair}
use Rattle.class_env.specs.declared.outcome.Fault.{Fault}
use Rattle.class_env.specs.declared.choice.Choice.{Choice}
use Rattle.class_env.specs.declared.choice.Choice.TheVariants.{No as NoChoice, One as OneChoice, Several as SeveralChoice}

-- the constraints on variables that are left, the pairs met, and the first fault
pub record Outcome : Type 0 where
  pub rest : List Constraint
  pub met : List Pair
  pub fault : Option Fault

abbrev pub outcome : List Constraint → List Pair → Option Fault → Outcome
outcome rest met fault = record { rest = rest; met = met; fault = fault }

abbrev pub nothing : Outcome
nothing = outcome [] [] None

-- what a second one adds, where the first has a result
abbrev pub unless : Option Fault → List Constraint → List Pair → Outcome → Outcome
unless None rest met b = outcome (rest ++ b.rest) (met ++ b.met) b.fault
unless (Some f) rest met b = outcome rest met (Some f)

abbrev pub then : Outcome → Outcome → Outcome
then a b = unless a.fault a.rest a.met b

-- none, one or several
pub data Only : Type 0 where
  No : Only
  One : Inst → Only
  Several : Only

abbrev pub only_is : Choice → Only
only_is NoChoice = No
only_is (OneChoice i) = One i.now
only_is SeveralChoice = Several

-- the one instance, from one that was seen before and those that are left
abbrev pub only_after : Option Inst → List Inst → Only
only_after None [] = No
only_after None (i ∷ is) = only_after (Some i) is
only_after (Some i) [] = One i
only_after (Some i) (j ∷ is) = Several

-- the one instance with so many variables
abbrev pub only_of : List Inst → ℕ → Only
only_of is n = only_after None (filter (λ i. nat_eq i.vars n) is)
