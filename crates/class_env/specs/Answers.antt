-- The code's answers.
use Rattle.std.specs.Prelude.{ℕ, ◌≡◌, Option, Some, None}
use Rattle.class_env.specs.declared.outcome.Fault.{Fault}
use Rattle.class_env.specs.declared.outcome.Fault.TheVariants as faults
use Rattle.class_env.specs.declared.outcome.Reduced.{Reduced}
use Rattle.class_env.specs.declared.outcome.Reduced.TheVariants.{Rest, NoInstance, Several, NoInstanceVar}
use Rattle.class_env.specs.Instances.{Outcome, outcome}

-- what is told of a fault at a place
abbrev pub fails_at : ℕ → Fault → Reduced
fails_at at (faults.NoInstance p) = NoInstance at p
fails_at at (faults.Several p) = Several at p
fails_at at faults.NoInstanceVar = NoInstanceVar at

-- whether an answer is an outcome, where the first constraint without a result stands at `place`
abbrev pub IsReduced : Reduced → Outcome → Option ℕ → Type 0
IsReduced (Rest rest met) o place = outcome rest met None ≡ o
IsReduced (NoInstance at p) o place = (o.fault ≡ Some (faults.NoInstance p)) × (place ≡ Some at)
IsReduced (Several at p) o place = (o.fault ≡ Some (faults.Several p)) × (place ≡ Some at)
IsReduced (NoInstanceVar at) o place = (o.fault ≡ Some faults.NoInstanceVar) × (place ≡ Some at)
